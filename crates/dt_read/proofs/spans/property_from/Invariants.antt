-- What is left of the properties has the wanted one, where all of them have it.
use Rattle.std.proofs.Common.{◌≡◌, length}
use Rattle.std.specs.List.{slice_get}
use Rattle.dt_read.specs.Lying.{IsLater}
use Rattle.dt_read.specs.Parsing.{left_by}
use Rattle.dt_read.specs.TreeTokens.{AreTokens, marks_in}
use Rattle.dt_read.proofs.spans.property_from.Given as goal

abbrev pub invariant-loop-found : goal.invariant-loop-found
invariant-loop-found l =
    AreTokens l.strings l.here l.rest × IsLater l.at l.bytes l.here l.rest
    × (slice_get (left_by (marks_in l.strings l.here l.rest)).properties l.before ≡ slice_get (left_by (marks_in l.strings l.at l.bytes)).properties l.index)

abbrev pub decreases-loop-found : goal.decreases-loop-found
decreases-loop-found l = length l.rest
