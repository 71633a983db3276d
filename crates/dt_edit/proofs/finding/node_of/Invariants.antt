-- The names that are left lead from the node to that of the path.
use Rattle.dt_trees.proofs.Steps.{IsOnTheWay}
use Rattle.dt_edit.proofs.finding.node_of.Given as goal

abbrev pub invariant-loop-name : goal.invariant-loop-name
invariant-loop-name l =
    goal.iterator-loop-name.can_next l.name-iterator × goal.iterator-loop-name.is_finite l.name-iterator × IsOnTheWay l.blob l.path l.node l.name-iterator
