use Rattle.std.proofs.Common.{◌∙◌}
use Rattle.dt_trees.proofs.Numbers.{within, value_at}
use Rattle.dt_trees.proofs.flat.value_of.Goals as goal

pub value-requires : goal.value-requires
value-requires c = within c.args.tree.now c.validity.ensures.rooted c.args.node c.requires

pub returns : goal.returns
returns c = c.value.ensures ∙ value_at c.args.tree.now c.args.node c.args.name.now c.requires
