use Rattle.std.proofs.Common.{[], Some, None, subst, codes}
use Rattle.std.proofs.lemmas.Result.{on_ok_weaker}
use Rattle.dt_model.specs.Path.{Path}
use Rattle.dt_overlay_read.specs.LocalFixups.{ListsMirror}
use Rattle.dt_overlay_read.proofs.LocalFixupsNodes.{root_counterparts, whole_mirror, no_mirror}
use Rattle.dt_overlay_read.proofs.RootChildren.{root_child}
use Rattle.dt_trees.proofs.NodePlaces.{path_is}
use Rattle.dt_overlay_read.proofs.local_fixups.list_local_fixups.Goals as goal

pub list_mirrored-requires-clause-counterparts : goal.list_mirrored-requires-clause-counterparts
list_mirrored-requires-clause-counterparts g c =
    let t = g.V.TreeView.tree c.args.object.now in
    root_counterparts t c.validity.ensures.places c.in-Some.mirror c.root-root.result c.root-root.ensures.at
    (root_child t c.validity.ensures.places c.root-root.result c.as_slice.result.now (codes "__local_fixups__") (Some c.in-Some.mirror) c.root-root.ensures.at c.as_slice.ensures c.in-Some.ensures.is)

pub returns-in-Some-clause-listed : goal.returns-in-Some-clause-listed
returns-in-Some-clause-listed g c numbers brought =
    let t = g.V.TreeView.tree c.args.object.now in
    let at = root_child t c.validity.ensures.places c.root-root.result c.as_slice.result.now (codes "__local_fixups__") (Some c.in-Some.mirror) c.root-root.ensures.at c.as_slice.ensures c.in-Some.ensures.is in
    on_ok_weaker c.list_mirrored.result
    (λ listed. whole_mirror t numbers c.in-Some.mirror c.args.out.now.items c.list_mirrored.new.out.items at
    (subst (λ (p : Path). ListsMirror t numbers p c.args.out.now.items c.list_mirrored.new.out.items) (path_is t c.validity.ensures.places [] c.root-root.result c.root-root.ensures.at) listed))
    (c.list_mirrored.ensures.listed numbers brought)

pub returns-in-None-clause-listed : goal.returns-in-None-clause-listed
returns-in-None-clause-listed g c numbers brought =
    let t = g.V.TreeView.tree c.args.object.now in
    no_mirror t numbers c.args.out.now.items
    (root_child t c.validity.ensures.places c.root-root.result c.as_slice.result.now (codes "__local_fixups__") None c.root-root.ensures.at c.as_slice.ensures c.in-None.ensures.is)
