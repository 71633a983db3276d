use Rattle.dt_trees.proofs.Numbers.{within, above_at}
use Rattle.dt_trees.proofs.flat.parent_of.Goals as goal

pub parent-requires : goal.parent-requires
parent-requires c = within c.args.tree.now c.validity.ensures.rooted c.args.node c.requires

pub returns : goal.returns
returns c = above_at c.args.tree.now c.validity.ensures.rooted c.args.node c.parent.result c.requires c.parent.ensures.root c.parent.ensures.below
