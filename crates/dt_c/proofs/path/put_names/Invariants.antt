-- The names below are put, and those of the nodes above are left.
use Rattle.std.proofs.Common.{length}
use Rattle.dt_c.proofs.Texts.{AreNamesPut}
use Rattle.dt_c.proofs.path.put_names.Given as goal

abbrev pub invariant-loop-next : goal.invariant-loop-next
invariant-loop-next l = AreNamesPut l.blob l.node l.here l.end l.above l.initial.out l.out

abbrev pub decreases-loop-next : goal.decreases-loop-next
decreases-loop-next l = length l.above
