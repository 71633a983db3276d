use Rattle.std.proofs.Common.{[]}
use Rattle.dt_trees.proofs.NodePlaces.{at_node}
use Rattle.dt_read.proofs.tree_view.root_of.Goals as goal

pub returns-clause-node : goal.returns-clause-node
returns-clause-node c = at_node c.args.blob.now c.validity.ensures.places [] c.root.result c.root.ensures
