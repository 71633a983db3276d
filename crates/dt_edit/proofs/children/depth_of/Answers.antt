use Rattle.std.proofs.Common.{◌∙◌}
use Rattle.dt_edit.proofs.Below.{above_counts}
use Rattle.dt_edit.proofs.children.depth_of.Goals as goal

pub returns : goal.returns
returns c = c.len.ensures ∙ above_counts c.args.blob.now c.args.node c.put_nodes_above.new.above c.put_nodes_above.ensures
