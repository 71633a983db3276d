use Rattle.std.proofs.Common.{◌≡◌, subst}
use Rattle.std.specs.Prelude.{OnOk, IfErr}
use Rattle.dt_model.specs.Applied.{landed_symbols}
use Rattle.dt_model.specs.Tree.{Reading}
use Rattle.dt_overlay_laws.specs.Objects.{symbols_in}
use Rattle.dt_overlay_laws.specs.Steps.{FullAtSymbols}
use Rattle.dt_overlay_landing.specs.SymbolLanding.{with_labels_of}
use Rattle.dt_overlay_landing.proofs.SeenObjects.{to_land}
use Rattle.dt_overlay_base.specs.Targets.{HasNoRoom, IsWant}
use Rattle.dt_overlay_landing.proofs.symbol_landing.set_symbols.Goals as goal

pub set_each_symbol-requires : goal.set_each_symbol-requires
set_each_symbol-requires g c =
    let o = c.args.object.now in
    let s = c.requires.sited in
    record { land = (s.1, to_land g.V.TreeView.tree o s.0 s.2.seen c.validity.ensures.places c.validity.ensures.valid s.1 c.args.landing.now.sites.items s.2 s.3) }

pub returns-clause-set : goal.returns-clause-set
returns-clause-set g c seen found on shallow =
    let o = c.args.object.now in
    subst (λ (r : Reading). OnOk c.set_each_symbol.result (g.T.Target.reading c.set_each_symbol.new.target ≡ with_labels_of r found (g.T.Target.reading c.args.target.now))) on.seen.reads
    (c.set_each_symbol.ensures.set found
    (to_land g.V.TreeView.tree o seen on.seen c.validity.ensures.places c.validity.ensures.valid found c.args.landing.now.sites.items on shallow))

pub returns-clause-refused : goal.returns-clause-refused
returns-clause-refused g c seen found on shallow =
    let o = c.args.object.now in
    subst (λ (r : Reading). IfErr c.set_each_symbol.result (IsWant (FullAtSymbols (HasNoRoom g.T.Target.reading g.T.Target.has_room g.T.Target.follows c.args.target.now) (landed_symbols r found (symbols_in r)) (g.T.Target.reading c.args.target.now)))) on.seen.reads
    (c.set_each_symbol.ensures.refused found
    (to_land g.V.TreeView.tree o seen on.seen c.validity.ensures.places c.validity.ensures.valid found c.args.landing.now.sites.items on shallow))
