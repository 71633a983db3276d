use Rattle.dt_read.proofs.Walking.{IsKept}
use Rattle.dt_read.proofs.tree_view.parent_of.Given as goal

abbrev pub invariant-loop-step : goal.invariant-loop-step
invariant-loop-step l =
    goal.iterator-loop-step.can_next l.step-iterator × goal.iterator-loop-step.is_finite l.step-iterator × IsKept l.blob l.node l.level l.depth l.above l.step-iterator
