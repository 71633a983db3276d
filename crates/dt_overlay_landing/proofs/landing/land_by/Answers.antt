use Rattle.std.proofs.Common.{◌∙◌, []}
use Rattle.dt_overlay_base.specs.Targets.{HasNoRoom}
use Rattle.dt_overlay_base.proofs.Results.{on_ok, if_err}
use Rattle.dt_overlay_landing.specs.Landed.{FullAtSeen}
use Rattle.dt_overlay_landing.proofs.LandingNodes.{want_whole}
use Rattle.dt_overlay_landing.proofs.SeenObjects.{nodes_there, own_may, labels_may, landed_is, may_land, landing_stuck}
use Rattle.dt_overlay_landing.proofs.landing.land_by.Goals as goal

pub write_all-requires : goal.write_all-requires
write_all-requires g c =
    let tree = g.V.TreeView.tree in
    let o = c.args.object.now in
    let s = c.requires.sited.0 in
    let is = c.requires.sited.2.seen in
    ([], s.own, own_may tree o s is c.validity.ensures.places c.validity.ensures.valid c.args.values.now c.deref.result.now c.requires.none c.deref.ensures.value)

pub write_all-requires-2 : goal.write_all-requires-2
write_all-requires-2 g c =
    let tree = g.V.TreeView.tree in
    let o = c.args.object.now in
    let s = c.requires.sited.0 in
    let is = c.requires.sited.2.seen in
    let apart = c.validity.ensures.places in
    let valid = c.validity.ensures.valid in
    let kept = c.in_ok-write_all.ensures [] s.own (own_may tree o s is apart valid c.args.values.now c.deref.result.now c.requires.none c.deref.ensures.value) in
    (s.own, s.labels, labels_may tree o s is apart valid c.write_all.new.self c.deref-2.result.now kept c.deref-2.ensures.value)

pub land_each-requires-clause-nodes : goal.land_each-requires-clause-nodes
land_each-requires-clause-nodes g c = nodes_there g.V.TreeView.tree c.args.object.now c.requires.sited.0 c.requires.sited.2.seen c.validity.ensures.places c.validity.ensures.valid

pub land_each-requires-clause-may : goal.land_each-requires-clause-may
land_each-requires-clause-may g c =
    let tree = g.V.TreeView.tree in
    let o = c.args.object.now in
    let s = c.requires.sited.0 in
    let on = c.requires.sited.2 in
    let apart = c.validity.ensures.places in
    let valid = c.validity.ensures.valid in
    let own = c.in_ok-write_all.ensures [] s.own (own_may tree o s on.seen apart valid c.args.values.now c.deref.result.now c.requires.none c.deref.ensures.value) in
    let kept = c.in_ok-write_all-2.ensures s.own s.labels (labels_may tree o s on.seen apart valid c.write_all.new.self c.deref-2.result.now own c.deref-2.ensures.value) in
    may_land tree o s on.seen apart valid c.requires.sited.1 c.args.sites.now on c.write_all-2.new.self kept (g.T.Target.reading c.args.target.now) c.requires.sited.3

pub returns-clause-landed : goal.returns-clause-landed
returns-clause-landed g c s found on =
    let tree = g.V.TreeView.tree in
    let o = c.args.object.now in
    let apart = c.validity.ensures.places in
    let valid = c.validity.ensures.valid in
    let own = c.in_ok-write_all.ensures [] s.own (own_may tree o s on.seen apart valid c.args.values.now c.deref.result.now c.requires.none c.deref.ensures.value) in
    let kept = c.in_ok-write_all-2.ensures s.own s.labels (labels_may tree o s on.seen apart valid c.write_all.new.self c.deref-2.result.now own c.deref-2.ensures.value) in
    on_ok c.land_each.result
    (λ landed. landed ∙ landed_is tree o s on.seen apart valid found c.args.sites.now on c.write_all-2.new.self kept (g.T.Target.reading c.args.target.now)) c.land_each.ensures.landed

pub returns-clause-refused : goal.returns-clause-refused
returns-clause-refused g c s found on =
    let tree = g.V.TreeView.tree in
    let o = c.args.object.now in
    let apart = c.validity.ensures.places in
    let valid = c.validity.ensures.valid in
    let own = c.in_ok-write_all.ensures [] s.own (own_may tree o s on.seen apart valid c.args.values.now c.deref.result.now c.requires.none c.deref.ensures.value) in
    let kept = c.in_ok-write_all-2.ensures s.own s.labels (labels_may tree o s on.seen apart valid c.write_all.new.self c.deref-2.result.now own c.deref-2.ensures.value) in
    let full = HasNoRoom g.T.Target.reading g.T.Target.has_room g.T.Target.follows c.args.target.now in
    if_err c.land_each.result
    (λ e. want_whole _ (FullAtSeen full (g.T.Target.reading c.args.target.now) s found) e (landing_stuck tree o s on.seen apart valid found c.args.sites.now on c.write_all-2.new.self kept full (g.T.Target.reading c.args.target.now))) c.land_each.ensures.refused
