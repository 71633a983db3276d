use Rattle.dt_read.proofs.tree_view.value_of.Goals as goal

pub returns : goal.returns
returns c = c.value.ensures _ c.requires
