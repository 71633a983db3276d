-- The properties that the walk has passed have other names.
use Rattle.std.proofs.Common.{length}
use Rattle.dt_read.proofs.Extents.{Extends}
use Rattle.dt_read.proofs.cuts.property_extent.Given as goal

abbrev pub invariant-loop-found : goal.invariant-loop-found
invariant-loop-found l = Extends l.strings l.at l.bytes l.name l.here l.rest

abbrev pub decreases-loop-found : goal.decreases-loop-found
decreases-loop-found l = length l.rest
