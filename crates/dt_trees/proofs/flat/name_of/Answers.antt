use Rattle.std.proofs.Common.{◌∙◌}
use Rattle.dt_trees.specs.Placed.{path_at}
use Rattle.dt_trees.specs.Trees.{numbered_tree}
use Rattle.dt_trees.proofs.Numbers.{within, reached, named_so}
use Rattle.dt_trees.proofs.flat.name_of.Goals as goal

pub name-requires : goal.name-requires
name-requires c = within c.args.tree.now c.validity.ensures.rooted c.args.node c.requires

pub returns : goal.returns
returns c = c.name.ensures ∙ named_so c.args.tree.now c.validity.ensures.rooted (path_at (numbered_tree c.args.tree.now) c.args.node) c.args.node (reached c.args.tree.now c.args.node c.requires)
