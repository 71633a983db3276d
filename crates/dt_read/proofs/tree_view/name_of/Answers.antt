use Rattle.dt_read.proofs.tree_view.name_of.Goals as goal

pub returns : goal.returns
returns c = c.name.ensures _ c.requires
