-- The cells so far are behind those of the key.
use Rattle.std.specs.Prelude.{◌≡◌, ◌++◌, take}
use Rattle.dt_irq.specs.Cells.{numbers_of}
use Rattle.dt_irq.proofs.hops.append.Given as goal

abbrev pub invariant-loop-i : goal.invariant-loop-i
invariant-loop-i l = l.key.items ≡ l.initial.key.items ++ take l.i (numbers_of l.cells)
