-- The cells so far, and zeros.
use Rattle.std.specs.Prelude.{◌≡◌, ◌-◌, ◌++◌, take, replicate}
use Rattle.dt_irq.specs.Cells.{numbers_of}
use Rattle.dt_irq.specs.Merging.{merged_numbers}
use Rattle.dt_irq.proofs.providers.merged.Given as goal

abbrev pub invariant-loop-i : goal.invariant-loop-i
invariant-loop-i l = l.cells ≡ take l.i (merged_numbers (numbers_of l.row) l.at_hand (numbers_of l.mask)) ++ replicate (8 - l.i) 0
