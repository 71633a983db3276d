use Rattle.std.proofs.Common.{◌∙◌}
use Rattle.dt_trees.proofs.Numbers.{counted}
use Rattle.dt_trees.proofs.flat.count_of.Goals as goal

pub returns : goal.returns
returns c = c.node_count.ensures ∙ counted c.args.tree.now c.validity.ensures.rooted
