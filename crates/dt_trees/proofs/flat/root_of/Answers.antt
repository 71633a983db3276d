use Rattle.std.proofs.Common.{[], Some, ap, sym}
use Rattle.dt_trees.proofs.NodePlaces.{at_node}
use Rattle.dt_trees.specs.Trees.{numbered_tree}
use Rattle.dt_trees.proofs.Numbers.{apart}
use Rattle.dt_trees.proofs.flat.root_of.Goals as goal

pub returns-clause-at : goal.returns-clause-at
returns-clause-at c = ap (λ n. Some n) (sym c.root.ensures.node)

pub returns-clause-node : goal.returns-clause-node
returns-clause-node c = at_node (numbered_tree c.args.tree.now) (apart c.args.tree.now c.validity.ensures.rooted) [] c.root.result (returns-clause-at c)
