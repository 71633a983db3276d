-- What is left is equal exactly where all is.
use Rattle.std.specs.Prelude.{◌≡◌, drop}
use Rattle.dt_resolve_model.specs.Interrupts.{equal_under}
use Rattle.dt_irq.specs.Cells.{numbers_of}
use Rattle.dt_irq.proofs.rows.are_equal.Given as goal

abbrev pub invariant-loop-i : goal.invariant-loop-i
invariant-loop-i l =
    equal_under (drop l.i (numbers_of l.compared)) (drop l.i l.key) (drop l.i (numbers_of l.mask)) ≡ equal_under (numbers_of l.compared) l.key (numbers_of l.mask)
