use Rattle.dt_read.proofs.Walking.{IsCounted}
use Rattle.dt_read.proofs.tree_view.depth_of.Given as goal

abbrev pub invariant-loop-step : goal.invariant-loop-step
invariant-loop-step l =
    goal.iterator-loop-step.can_next l.step-iterator × goal.iterator-loop-step.is_finite l.step-iterator × IsCounted l.blob l.node l.depth l.step-iterator
