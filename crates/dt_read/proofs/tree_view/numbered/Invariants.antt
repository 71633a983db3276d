-- What is left finds what the whole walk finds.
use Rattle.dt_read.proofs.Numbered.{Finds}
use Rattle.dt_read.proofs.tree_view.numbered.Given as goal

abbrev pub invariant-loop-step : goal.invariant-loop-step
invariant-loop-step l =
    goal.iterator-loop-step.can_next l.step-iterator × goal.iterator-loop-step.is_finite l.step-iterator × Finds l.blob l.number l.step-iterator
