use Rattle.std.proofs.Common.{◌≡◌, [], length}
use Rattle.dt_read.specs.Cuts.{Passes}
use Rattle.dt_read.specs.Lying.{IsLater}
use Rattle.dt_read.specs.TreeTokens.{AreTokens, marks_in}
use Rattle.dt_read.proofs.cursor.next_token.Given as goal

abbrev pub invariant-loop-token : goal.invariant-loop-token
invariant-loop-token l =
    AreTokens l.strings l.here l.rest × (marks_in l.strings l.here l.rest ≡ marks_in l.strings l.at l.bytes) × IsLater l.at l.bytes l.here l.rest
    × Passes l.strings l.at l.bytes l.here []

abbrev pub decreases-loop-token : goal.decreases-loop-token
decreases-loop-token l = length l.rest
