-- The cells so far, and zeros.
use Rattle.std.specs.Prelude.{◌≡◌, ◌-◌, ◌++◌, take, replicate}
use Rattle.dt_irq.specs.Cells.{numbers_of}
use Rattle.dt_irq.proofs.reached.cells_of.Given as goal

abbrev pub invariant-loop-i : goal.invariant-loop-i
invariant-loop-i l = l.cells ≡ take l.i (numbers_of l.specifier) ++ replicate (8 - l.i) 0
