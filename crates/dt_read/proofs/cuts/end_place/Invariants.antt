-- The walk is so many nodes below the one that it began in.
use Rattle.std.proofs.Common.{length}
use Rattle.dt_read.proofs.Endings.{Nests}
use Rattle.dt_read.proofs.cuts.end_place.Given as goal

abbrev pub invariant-loop-found : goal.invariant-loop-found
invariant-loop-found l = Nests l.strings l.at l.bytes l.here l.rest l.depth

abbrev pub decreases-loop-found : goal.decreases-loop-found
decreases-loop-found l = length l.rest
