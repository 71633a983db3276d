use Rattle.std.proofs.Common.{ap, length, arith}
use Rattle.dt_flat.specs.Arena.{reading}
use Rattle.dt_write.proofs.WholeLemmas.{many_reservations}
use Rattle.dt_write.proofs.whole.put_blob.Goals as goal

pub returns-then-reservations-clause-refused : goal.returns-then-reservations-clause-refused
returns-then-reservations-clause-refused c =
    (rw c.of.ensures.kind (many_reservations (reading c.args.tree.now) (omega (arith, c.if-reservations.true, ap length c.reservations.ensures))), c.of.ensures.at)
