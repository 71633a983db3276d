use Rattle.dt_trees.specs.Placed.{path_at}
use Rattle.dt_trees.proofs.Steps.{sibling_is, sibling_is_node}
use Rattle.dt_read.proofs.tree_view.sibling_behind.Goals as goal

pub returns-clause-is : goal.returns-clause-is
returns-clause-is c = sibling_is c.args.blob.now (path_at c.args.blob.now c.args.node) c.args.node c.next_sibling.result c.requires c.next_sibling.ensures.root c.next_sibling.ensures.below

pub returns-clause-node : goal.returns-clause-node
returns-clause-node c = sibling_is_node c.args.blob.now c.validity.ensures.places (path_at c.args.blob.now c.args.node) c.next_sibling.result (returns-clause-is c)
