use Rattle.std.specs.Iterator.Adapters.{zip_first, zip_second}
use Rattle.std.specs.Slice.Iter.{iter_rest}
use Rattle.std.proofs.lemmas.Result.{err_from_is_err_and}
use Rattle.std.proofs.lemmas.Slice.Zip.{either_empty_from_Zip}
use Rattle.dt_overlay_laws.specs.Steps.{FullAtNode}
use Rattle.dt_overlay_laws.proofs.Crowded.{node_more}
use Rattle.dt_overlay_base.specs.Targets.{HasNoRoom}
use Rattle.dt_overlay_base.proofs.Rooms.{behind}
use Rattle.dt_overlay_landing.specs.Landed.{land_each, landed_with, FullAtEach}
use Rattle.dt_overlay_landing.proofs.LandingEach.{next_landing, each_over}
use Rattle.dt_overlay_landing.proofs.LandingNodes.{want_whole}
use Rattle.dt_overlay_landing.proofs.landing.land_each.Goals as goal

pub returns-in_err-land-clause-refused : goal.returns-in_err-land-clause-refused
returns-in_err-land-clause-refused g c =
    let o = g.V.TreeView.tree c.args.object.now.tree.now in
    let full = HasNoRoom g.T.Target.reading g.T.Target.has_room g.T.Target.follows c.args.target.now in
    let start = g.T.Target.reading c.args.target.now in
    let landed = landed_with g.V.TreeView.tree c.args.object.now c.args.values.now in
    let all = c.args.object.now.fragments.items in
    let crowded = FullAtEach full landed all c.args.sites.now start in
    let s = c.loop-fragment.fragment-iterator in
    let rest = c.next.new.self in
    let x = c.in-Some.fragment.now in
    let q = c.in-Some.site.now in
    let now = g.T.Target.reading c.loop-fragment.target in
    let far = HasNoRoom g.T.Target.reading g.T.Target.has_room g.T.Target.follows c.loop-fragment.target in
    let e = err_from_is_err_and c.from_residual.result c.from_residual.ensures.1 in
    let next = next_landing full o landed (land_each landed all c.args.sites.now start) crowded (iter_rest (zip_first s)) (iter_rest (zip_first rest)) x (iter_rest (zip_second s)) (iter_rest (zip_second rest)) q now
    c.in-Some.ensures.steps.0 c.in-Some.ensures.steps.1 c.loop-fragment.invariant.left in
    rw (e.1, e.2)
    (want_whole (FullAtNode far q (landed x.content) now) crowded c.in_err-land.field-0.0
    (λ stuck. next.landed (node_more far full
    (behind g.T.Target.reading g.T.Target.has_room g.T.Target.follows g.T.Target.follows_trans c.args.target.now c.loop-fragment.target c.loop-fragment.invariant.follows) q (landed x.content) now stuck))
    c.in_err-land.ensures.refused)

pub returns-clause-landed : goal.returns-clause-landed
returns-clause-landed g c =
    let o = g.V.TreeView.tree c.args.object.now.tree.now in
    let full = HasNoRoom g.T.Target.reading g.T.Target.has_room g.T.Target.follows c.args.target.now in
    let start = g.T.Target.reading c.args.target.now in
    let landed = landed_with g.V.TreeView.tree c.args.object.now c.args.values.now in
    let all = c.args.object.now.fragments.items in
    let s = c.loop-fragment.fragment-iterator in
    each_over full o landed (land_each landed all c.args.sites.now start) (FullAtEach full landed all c.args.sites.now start) (iter_rest (zip_first s)) (iter_rest (zip_second s)) (g.T.Target.reading c.loop-fragment.target)
    (either_empty_from_Zip s c.next.new.self c.next.result c.in-None.is c.next.ensures.steps) c.loop-fragment.invariant.left
