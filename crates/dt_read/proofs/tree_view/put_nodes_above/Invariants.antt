-- The open nodes are above one another, and the node is still to come.
use Rattle.dt_read.proofs.Walking.{IsAhead}
use Rattle.dt_read.proofs.tree_view.put_nodes_above.Given as goal

abbrev pub invariant-loop-step : goal.invariant-loop-step
invariant-loop-step l =
    goal.iterator-loop-step.can_next l.step-iterator × goal.iterator-loop-step.is_finite l.step-iterator × IsAhead l.blob l.node l.above l.step-iterator
