-- The node is opened, where it is opened later.
use Rattle.dt_model.specs.Lists.{IsIn}
use Rattle.dt_read.specs.Walked.{steps_of}
use Rattle.dt_read.proofs.Opened.{opened}
use Rattle.dt_read.proofs.tree_view.is_node.Given as goal

abbrev pub invariant-loop-step : goal.invariant-loop-step
invariant-loop-step l =
    goal.iterator-loop-step.can_next l.step-iterator × goal.iterator-loop-step.is_finite l.step-iterator
    × (IsIn l.node (opened (steps_of l.blob)) → IsIn l.node (opened l.step-iterator))
    × (IsIn l.node (opened l.step-iterator) → IsIn l.node (opened (steps_of l.blob)))
