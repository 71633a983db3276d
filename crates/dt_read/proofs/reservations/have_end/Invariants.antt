use Rattle.std.proofs.Common.{◌≡◌, length}
use Rattle.dt_read.specs.Pairs.{ends}
use Rattle.dt_read.proofs.reservations.have_end.Given as goal

abbrev pub invariant-loop-pair : goal.invariant-loop-pair
invariant-loop-pair l = ends l.rest ≡ ends l.bytes

abbrev pub decreases-loop-pair : goal.decreases-loop-pair
decreases-loop-pair l = length l.rest
