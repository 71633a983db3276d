use Rattle.std.proofs.Common.{◌≡◌, ℕ, ◌+◌, ◌<◌, ◌^◌, List, length}
use Rattle.dt_read.specs.TreeTokens.{AreTokens, marks_in}
use Rattle.dt_read.proofs.cursor.next_tag.Given as goal

abbrev pub invariant-loop-tag : goal.invariant-loop-tag
invariant-loop-tag l =
    (l.here + length l.rest < 2 ^ 32) × ((strings : List ℕ) → AreTokens strings l.at l.bytes → AreTokens strings l.here l.rest × (marks_in strings l.here l.rest ≡ marks_in strings l.at l.bytes))

abbrev pub decreases-loop-tag : goal.decreases-loop-tag
decreases-loop-tag l = length l.rest
