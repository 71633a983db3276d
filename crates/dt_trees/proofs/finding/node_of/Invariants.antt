-- The names that are left lead from the node to that of the path.
use Rattle.dt_trees.proofs.Steps.{IsOnTheWay}
use Rattle.dt_trees.proofs.finding.node_of.Given as goal

abbrev pub invariant-loop-name : goal.invariant-loop-name
invariant-loop-name g l =
    (goal.iterator-loop-name g).can_next l.name-iterator × (goal.iterator-loop-name g).is_finite l.name-iterator × IsOnTheWay (g.V.TreeView.tree l.view) l.path l.node l.name-iterator
