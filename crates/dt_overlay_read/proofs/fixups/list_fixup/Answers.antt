use Rattle.std.proofs.Common.{rules, ◌<◌, ◌^◌}
use Rattle.std.proofs.lemmas.Result.{on_ok_weaker}
use Rattle.dt_trees.specs.Views.{prop_said}
use Rattle.dt_overlay_read.proofs.FixupsLabels.{ListsLabels-one}
use Rattle.dt_overlay_read.proofs.fixups.list_fixup.Goals as goal

pub returns-in-Ok-clause-listed : goal.returns-in-Ok-clause-listed
returns-in-Ok-clause-listed g c =
    let fits : c.in-Ok.number < 2 ^ 32 = search rules in
    on_ok_weaker c.list_cells.result
    (ListsLabels-one (g.T.Target.reading c.args.target.now) (g.V.TreeView.tree c.args.object.now) (prop_said c.args.fixup.now) c.in-Ok.number
    c.args.out.now.items c.list_cells.new.out.items c.in-Ok.ensures.number fits)
    c.list_cells.ensures.listed
