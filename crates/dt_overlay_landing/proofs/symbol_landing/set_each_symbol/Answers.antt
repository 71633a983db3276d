use Rattle.std.proofs.Common.{◌≡◌, ◌+◌, ◌∷◌, [], codes, length, get_or, drop, refl, sym, subst, ◌∙◌, inl, arith}
use Rattle.std.specs.Global.{Vec}
use Rattle.std.proofs.lemmas.Bool.{eqb-true, eqb-false}
use Rattle.std.proofs.lemmas.List.{drop_more, drop_all}
use Rattle.std.proofs.lemmas.Result.{err_from_is_err_and}
use Rattle.dt_model.specs.Changes.{with_child_at, with_property_at}
use Rattle.dt_model.specs.Path.{Path, path_value}
use Rattle.dt_model.specs.Applied.{landed_symbols, with_symbols_merged}
use Rattle.dt_overlay_laws.specs.Objects.{symbols_in}
use Rattle.dt_overlay_laws.specs.Steps.{FullAtSymbols}
use Rattle.dt_overlay_base.specs.Targets.{HasNoRoom}
use Rattle.dt_overlay_base.proofs.Rooms.{behind}
use Rattle.dt_overlay_landing.proofs.LandingNodes.{want_whole}
use Rattle.dt_overlay_landing.specs.SymbolLanding.{AreToLand, LandsAt}
use Rattle.dt_overlay_landing.proofs.SymbolLandingLabels.{labels_land}
use Rattle.dt_overlay_landing.proofs.SymbolLandingLeft.{none_set, labels_begin, labels_stuck, next_label, label_stuck, labels_step, labels_over}
use Rattle.dt_trees.specs.Placed.{reading_of}
use Rattle.dt_overlay_landing.proofs.symbol_landing.set_each_symbol.Goals as goal

pub returns-then-is_empty-clause-set : goal.returns-then-is_empty-clause-set
returns-then-is_empty-clause-set g c found land =
    let o = g.V.TreeView.tree c.args.object.now.tree.now in
    let b = c.args.object.now.brought in
    let sites = c.args.landing.now.sites.items in
    let full = HasNoRoom g.T.Target.reading g.T.Target.has_room g.T.Target.follows c.args.target.now in
    let start = g.T.Target.reading c.args.target.now in
    let labels = c.as_slice-symbols.result.now in
    let ps = landed_symbols (reading_of o) found (symbols_in (reading_of o)) in
    let here : AreToLand o b sites found labels = subst (AreToLand o b sites found) (sym c.as_slice-symbols.ensures.value) land in
    let none : length labels ≡ 0 = eqb-true (length labels) 0 (sym c.is_empty.ensures ∙ c.if-is_empty.true) in
    sym (none_set full o b sites labels ps start none (labels_land o c.validity.ensures.places c.validity.ensures.valid b sites found labels here))

pub returns-in_err-add_symbols-clause-refused : goal.returns-in_err-add_symbols-clause-refused
returns-in_err-add_symbols-clause-refused g c found land =
    let o = g.V.TreeView.tree c.args.object.now.tree.now in
    let b = c.args.object.now.brought in
    let sites = c.args.landing.now.sites.items in
    let full = HasNoRoom g.T.Target.reading g.T.Target.has_room g.T.Target.follows c.args.target.now in
    let start = g.T.Target.reading c.args.target.now in
    let labels = c.as_slice-symbols.result.now in
    let ps = landed_symbols (reading_of o) found (symbols_in (reading_of o)) in
    let here : AreToLand o b sites found labels = subst (AreToLand o b sites found) (sym c.as_slice-symbols.ensures.value) land in
    let e = err_from_is_err_and c.from_residual.result c.from_residual.ensures.1 in
    let some : ¬ (length labels ≡ 0) = eqb-false (length labels) 0 (sym c.is_empty.ensures ∙ c.if-is_empty.false) in
    rw (e.1, e.2)
    (want_whole (full start (with_child_at [] (codes "__symbols__") start)) (FullAtSymbols full ps start) c.in_err-add_symbols.field-0.0
    (λ stuck. labels_stuck full o b sites labels ps start some (labels_land o c.validity.ensures.places c.validity.ensures.valid b sites found labels here) (inl stuck)) c.in_err-add_symbols.ensures.refused)

pub loop-symbol-init : goal.loop-symbol-init
loop-symbol-init g c =
    let o = g.V.TreeView.tree c.args.object.now.tree.now in
    let b = c.args.object.now.brought in
    let sites = c.args.landing.now.sites.items in
    let full = HasNoRoom g.T.Target.reading g.T.Target.has_room g.T.Target.follows c.args.target.now in
    let start = g.T.Target.reading c.args.target.now in
    let labels = c.as_slice-symbols.result.now in
    record {
      kept = refl;
      left = λ found land.
          let ps = landed_symbols (reading_of o) found (symbols_in (reading_of o)) in
          let here : AreToLand o b sites found labels = subst (AreToLand o b sites found) (sym c.as_slice-symbols.ensures.value) land in
          let some : ¬ (length labels ≡ 0) = eqb-false (length labels) 0 (sym c.is_empty.ensures ∙ c.if-is_empty.false) in
          labels_begin full o b sites labels ps start (g.T.Target.reading c.add_symbols.new.target) some (labels_land o c.validity.ensures.places c.validity.ensures.valid b sites found labels here) c.in_ok-add_symbols.ensures.added;
      follows = c.add_symbols.ensures.follows;
    }

pub set_symbol-requires-clause-lands : goal.set_symbol-requires-clause-lands
set_symbol-requires-clause-lands g c =
    let o = g.V.TreeView.tree c.args.object.now.tree.now in
    let b = c.args.object.now.brought in
    let sites = c.args.landing.now.sites.items in
    let full = HasNoRoom g.T.Target.reading g.T.Target.has_room g.T.Target.follows c.args.target.now in
    let start = g.T.Target.reading c.args.target.now in
    let labels = c.as_slice-symbols.result.now in
    let i = c.loop-symbol.symbol-index in
    let x = get_or labels i (record { node = 0; label = record { ref_ptr = (0, 0); now = [] } }) in
    let first : drop i labels ≡ x ∷ drop (i + 1) labels = drop_more labels i _ (omega (arith, c.loop-symbol-test.true)) in
    let t = g.T.Target.reading c.loop-symbol.target in
    let found = c.requires.land.0 in
    let ps = landed_symbols (reading_of o) found (symbols_in (reading_of o)) in
    subst (λ (at : Vec (Path)). (path : Path) × LandsAt o b at.items x path) (sym c.loop-symbol.invariant.kept)
    (next_label full o b sites (drop i labels) (drop (i + 1) labels) x t (with_symbols_merged ps start) (FullAtSymbols full ps start) first (c.loop-symbol.invariant.left found c.requires.land.1))

pub returns-in_err-set_symbol-clause-refused : goal.returns-in_err-set_symbol-clause-refused
returns-in_err-set_symbol-clause-refused g c found land =
    let o = g.V.TreeView.tree c.args.object.now.tree.now in
    let b = c.args.object.now.brought in
    let sites = c.args.landing.now.sites.items in
    let full = HasNoRoom g.T.Target.reading g.T.Target.has_room g.T.Target.follows c.args.target.now in
    let start = g.T.Target.reading c.args.target.now in
    let labels = c.as_slice-symbols.result.now in
    let i = c.loop-symbol.symbol-index in
    let x = get_or labels i (record { node = 0; label = record { ref_ptr = (0, 0); now = [] } }) in
    let first : drop i labels ≡ x ∷ drop (i + 1) labels = drop_more labels i _ (omega (arith, c.loop-symbol-test.true)) in
    let t = g.T.Target.reading c.loop-symbol.target in
    let ps = landed_symbols (reading_of o) found (symbols_in (reading_of o)) in
    let e = err_from_is_err_and c.from_residual-in_err-set_symbol.result c.from_residual-in_err-set_symbol.ensures.1 in
    let next = label_stuck full o b sites (drop i labels) (drop (i + 1) labels) x t (with_symbols_merged ps start) (FullAtSymbols full ps start) first (c.loop-symbol.invariant.left found land) in
    let lands = subst (λ (at : Vec (Path)). LandsAt o b at.items x next.0) (sym c.loop-symbol.invariant.kept) next.1 in
    let set = with_property_at (codes "__symbols__" ∷ []) x.label.now (path_value next.0) t in
    rw (e.1, e.2)
    (want_whole ((HasNoRoom g.T.Target.reading g.T.Target.has_room g.T.Target.follows c.loop-symbol.target) t set) (FullAtSymbols full ps start) c.in_err-set_symbol.field-0.0
    (λ stuck. next.2 (behind g.T.Target.reading g.T.Target.has_room g.T.Target.follows g.T.Target.follows_trans c.args.target.now c.loop-symbol.target c.loop-symbol.invariant.follows t set stuck))
    (c.in_err-set_symbol.ensures.refused next.0 lands))

pub returns-in_err-set_symbol-clause-follows : goal.returns-in_err-set_symbol-clause-follows
returns-in_err-set_symbol-clause-follows g c = g.T.Target.follows_trans c.args.target.now c.loop-symbol.target c.set_symbol.new.target c.loop-symbol.invariant.follows c.set_symbol.ensures.follows

pub loop-symbol-preserved : goal.loop-symbol-preserved
loop-symbol-preserved g c =
    let o = g.V.TreeView.tree c.args.object.now.tree.now in
    let b = c.args.object.now.brought in
    let sites = c.args.landing.now.sites.items in
    let full = HasNoRoom g.T.Target.reading g.T.Target.has_room g.T.Target.follows c.args.target.now in
    let start = g.T.Target.reading c.args.target.now in
    let labels = c.as_slice-symbols.result.now in
    let i = c.loop-symbol.symbol-index in
    let x = get_or labels i (record { node = 0; label = record { ref_ptr = (0, 0); now = [] } }) in
    let first : drop i labels ≡ x ∷ drop (i + 1) labels = drop_more labels i _ (omega (arith, c.loop-symbol-test.true)) in
    let t = g.T.Target.reading c.loop-symbol.target in
    record {
      kept = c.in_ok-set_symbol.ensures.kept ∙ c.loop-symbol.invariant.kept;
      left = λ found land.
          let ps = landed_symbols (reading_of o) found (symbols_in (reading_of o)) in
          labels_step full o b sites (drop i labels) (drop (i + 1) labels) x t (g.T.Target.reading c.set_symbol.new.target) (with_symbols_merged ps start) (FullAtSymbols full ps start) first (c.loop-symbol.invariant.left found land)
          (λ q lands. c.in_ok-set_symbol.ensures.set q (subst (λ (at : Vec (Path)). LandsAt o b at.items x q) (sym c.loop-symbol.invariant.kept) lands));
      follows = g.T.Target.follows_trans c.args.target.now c.loop-symbol.target c.set_symbol.new.target c.loop-symbol.invariant.follows c.set_symbol.ensures.follows;
    }

pub returns-clause-set : goal.returns-clause-set
returns-clause-set g c found land =
    let o = g.V.TreeView.tree c.args.object.now.tree.now in
    let b = c.args.object.now.brought in
    let sites = c.args.landing.now.sites.items in
    let full = HasNoRoom g.T.Target.reading g.T.Target.has_room g.T.Target.follows c.args.target.now in
    let start = g.T.Target.reading c.args.target.now in
    let labels = c.as_slice-symbols.result.now in
    let ps = landed_symbols (reading_of o) found (symbols_in (reading_of o)) in
    labels_over full o b sites (drop c.loop-symbol.symbol-index labels) (g.T.Target.reading c.loop-symbol.target) (with_symbols_merged ps start) (FullAtSymbols full ps start)
    (drop_all c.loop-symbol.symbol-index labels c.loop-symbol-test.false) (c.loop-symbol.invariant.left found land)
