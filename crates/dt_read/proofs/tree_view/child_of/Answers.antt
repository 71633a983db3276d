use Rattle.std.proofs.Common.{◌∷◌, ◌++◌, []}
use Rattle.dt_trees.specs.Placed.{path_at}
use Rattle.dt_trees.proofs.Steps.{place_is_node}
use Rattle.dt_read.proofs.tree_view.child_of.Goals as goal

pub returns-clause-is : goal.returns-clause-is
returns-clause-is c = c.child.ensures _ c.requires

pub returns-clause-node : goal.returns-clause-node
returns-clause-node c = place_is_node c.args.blob.now c.validity.ensures.places (path_at c.args.blob.now c.args.node ++ c.args.name.now ∷ []) c.child.result (returns-clause-is c)
