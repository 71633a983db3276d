use Rattle.std.proofs.Common.{refl}
use Rattle.std.proofs.lemmas.Result.{err_from_is_err_and}
use Rattle.dt_overlay.proofs.CarriedOut.{seen_of, sited_on, may_land, shallow, carried, told_landing, told_symbols}
use Rattle.dt_overlay_base.proofs.Results.{on_ok, if_err}
use Rattle.dt_model.specs.Applied.{landed_symbols}
use Rattle.dt_overlay_base.specs.Targets.{HasNoRoom}
use Rattle.dt_overlay_base.proofs.Rooms.{behind}
use Rattle.dt_overlay_landing.proofs.LandingNodes.{want_whole}
use Rattle.dt_overlay_laws.proofs.Crowded.{symbols_more}
use Rattle.dt_overlay_laws.specs.Objects.{symbols_in}
use Rattle.dt_overlay.proofs.applying.land.Goals as goal

pub land_all-requires : goal.land_all-requires
land_all-requires g c =
    let base = g.T.Target.reading c.args.target.now in
    let o = c.args.object.now in
    let qs = c.args.landing.now.sites.items in
    let object = c.requires.numbered.0 in
    let n = c.requires.numbered.1 in
    let v = c.validity.ensures in (
      seen_of g.V.TreeView.tree base object o qs n,
      n.end.sites,
      sited_on c.sited_is_applied.ensures c.fragments_are_merged.ensures g.V.TreeView.tree base object o qs n v.valid v.within v.cells qs refl,
      may_land c.sited_is_applied.ensures c.fragments_are_merged.ensures g.V.TreeView.tree base object o qs n v.valid v.within v.cells,
    )

pub returns-in_err-land_all-clause-refused : goal.returns-in_err-land_all-clause-refused
returns-in_err-land_all-clause-refused g c object n =
    let base = g.T.Target.reading c.args.target.now in
    let o = c.args.object.now in
    let qs = c.args.landing.now.sites.items in
    let v = c.validity.ensures in
    let e = err_from_is_err_and c.from_residual.result c.from_residual.ensures.1 in
    rw (e.1, e.2)
    (told_landing c.sited_is_applied.ensures c.fragments_are_merged.ensures g.V.TreeView.tree base object o qs n v.valid v.within v.cells (HasNoRoom g.T.Target.reading g.T.Target.has_room g.T.Target.follows c.args.target.now) c.in_err-land_all.field-0.0
    (c.in_err-land_all.ensures.refused (seen_of g.V.TreeView.tree base object o qs n) n.end.sites
    (sited_on c.sited_is_applied.ensures c.fragments_are_merged.ensures g.V.TreeView.tree base object o qs n v.valid v.within v.cells qs refl)))

pub set_symbols-requires : goal.set_symbols-requires
set_symbols-requires g c =
    let base = g.T.Target.reading c.args.target.now in
    let o = c.args.object.now in
    let qs = c.args.landing.now.sites.items in
    let object = c.requires.numbered.0 in
    let n = c.requires.numbered.1 in
    let v = c.validity.ensures in
    record {
      sited = (
        seen_of g.V.TreeView.tree base object o qs n,
        n.end.sites,
        sited_on c.sited_is_applied.ensures c.fragments_are_merged.ensures g.V.TreeView.tree base object o qs n v.valid v.within v.cells qs refl,
        shallow c.sited_is_applied.ensures c.fragments_are_merged.ensures g.V.TreeView.tree base object o qs n v.valid v.within v.cells,
      );
    }

pub returns-clause-applied : goal.returns-clause-applied
returns-clause-applied g c object n =
    let base = g.T.Target.reading c.args.target.now in
    let o = c.args.object.now in
    let qs = c.args.landing.now.sites.items in
    let v = c.validity.ensures in
    let law = c.sited_is_applied.ensures in
    let merge = c.fragments_are_merged.ensures in
    let seen = seen_of g.V.TreeView.tree base object o qs n in
    on_ok c.set_symbols.result
    (carried law merge g.V.TreeView.tree base object o qs n v.valid v.within v.cells (g.T.Target.reading c.land_all.new.target) (g.T.Target.reading c.set_symbols.new.target)
    (c.in_ok-land_all.ensures.landed seen n.end.sites (sited_on law merge g.V.TreeView.tree base object o qs n v.valid v.within v.cells qs refl)))
    (c.set_symbols.ensures.set seen n.end.sites (sited_on law merge g.V.TreeView.tree base object o qs n v.valid v.within v.cells qs refl)
    (shallow law merge g.V.TreeView.tree base object o qs n v.valid v.within v.cells))

pub returns-clause-refused : goal.returns-clause-refused
returns-clause-refused g c object n =
    let base = g.T.Target.reading c.args.target.now in
    let o = c.args.object.now in
    let qs = c.args.landing.now.sites.items in
    let v = c.validity.ensures in
    let law = c.sited_is_applied.ensures in
    let merge = c.fragments_are_merged.ensures in
    let seen = seen_of g.V.TreeView.tree base object o qs n in
    if_err c.set_symbols.result
    (λ fault want. told_symbols law merge g.V.TreeView.tree base object o qs n v.valid v.within v.cells (HasNoRoom g.T.Target.reading g.T.Target.has_room g.T.Target.follows c.args.target.now) (g.T.Target.reading c.land_all.new.target)
    (c.in_ok-land_all.ensures.landed seen n.end.sites (sited_on law merge g.V.TreeView.tree base object o qs n v.valid v.within v.cells qs refl)) fault
    (want_whole _ _ fault (symbols_more (HasNoRoom g.T.Target.reading g.T.Target.has_room g.T.Target.follows c.land_all.new.target) (HasNoRoom g.T.Target.reading g.T.Target.has_room g.T.Target.follows c.args.target.now)
    (behind g.T.Target.reading g.T.Target.has_room g.T.Target.follows g.T.Target.follows_trans c.args.target.now c.land_all.new.target c.land_all.ensures.follows)
    (landed_symbols object n.end.sites (symbols_in object)) (g.T.Target.reading c.land_all.new.target)) want))
    (c.set_symbols.ensures.refused seen n.end.sites (sited_on law merge g.V.TreeView.tree base object o qs n v.valid v.within v.cells qs refl)
    (shallow law merge g.V.TreeView.tree base object o qs n v.valid v.within v.cells))

pub returns-clause-follows : goal.returns-clause-follows
returns-clause-follows g c = g.T.Target.follows_trans c.args.target.now c.land_all.new.target c.set_symbols.new.target c.land_all.ensures.follows c.set_symbols.ensures.follows
