-- What is left of the properties finds the name as all of them do.
use Rattle.std.proofs.Common.{◌≡◌, length}
use Rattle.dt_model.specs.Tree.{value_of}
use Rattle.dt_read.specs.Lying.{IsLater}
use Rattle.dt_read.specs.Parsing.{left_by}
use Rattle.dt_read.specs.TreeTokens.{AreTokens, marks_in}
use Rattle.dt_read.proofs.spans.value_from.Given as goal

abbrev pub invariant-loop-found : goal.invariant-loop-found
invariant-loop-found l =
    AreTokens l.strings l.here l.rest × IsLater l.at l.bytes l.here l.rest
    × (value_of (left_by (marks_in l.strings l.here l.rest)).properties l.name ≡ value_of (left_by (marks_in l.strings l.at l.bytes)).properties l.name)

abbrev pub decreases-loop-found : goal.decreases-loop-found
decreases-loop-found l = length l.rest
