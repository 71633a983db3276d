use Rattle.std.proofs.Common.{◌≡◌, None, refl, sym, subst}
use Rattle.std.proofs.lemmas.Result.{err_from_is_err_and}
use Rattle.dt_names.specs.declared.fault.Fault.{Fault}
use Rattle.dt_model.specs.Named.{NodeReference, NamedList, tree_of}
use Rattle.dt_chain_promises.specs.Compile.{WhyNotCompiledOverlay}
use Rattle.dt_chain.specs.Steps.{OfEachText, HasOverlay, HasRooms, WhyNotMarked}
use Rattle.dt_chain.proofs.Stages.{if_err}
use Rattle.dt_chain.proofs.OverlayStages.{overlay_has_rooms, not_built, not_whole}
use Rattle.dt_chain.proofs.compiling.overlay_tree.Goals as goal

pub returns-in_err-overlay-clause-refused : goal.returns-in_err-overlay-clause-refused
returns-in_err-overlay-clause-refused c =
    let e = err_from_is_err_and c.from_residual.result c.from_residual.ensures.1 in
    rw (e.1, e.2) (not_built c.args.source.now c.in_err-overlay.field-0.0 c.in_err-overlay.ensures.refused)

pub marked-requires : goal.marked-requires
marked-requires c =
    let s = c.args.source.now in
    let said = c.in_ok-overlay.ensures.overlay refl in
    let t = tree_of c.in_ok-overlay.overlay.tree in
    let h : HasOverlay s t = record {
      plugin = said.0;
      reservations = said.1;
      places = c.spelled.ensures.places;
      fragments = c.in_ok-overlay.overlay.fragments;
      named = c.in_ok-overlay.ensures.meant;
    } in
    subst (λ (l : NamedList NodeReference). HasRooms (tree_of l)) (sym c.tree.ensures) (overlay_has_rooms c.overlay_source_is_an_overlay.ensures s t h)

pub returns-clause-refused : goal.returns-clause-refused
returns-clause-refused c =
    let s = c.args.source.now in
    let said = c.in_ok-overlay.ensures.overlay refl in
    let h : HasOverlay s (tree_of c.in_ok-overlay.overlay.tree) = record {
      plugin = said.0;
      reservations = said.1;
      places = c.spelled.ensures.places;
      fragments = c.in_ok-overlay.overlay.fragments;
      named = c.in_ok-overlay.ensures.meant;
    } in
    let t = tree_of c.tree.result.now in
    let k : HasOverlay s t = subst (λ (l : NamedList NodeReference). HasOverlay s (tree_of l)) (sym c.tree.ensures) h in
    if_err (λ (fault : Fault). WhyNotMarked fault.kind t × (fault.at ≡ None)) (λ fault. OfEachText s (λ text. WhyNotCompiledOverlay text fault))
    (λ fault why. not_whole s t fault k why)
    c.marked.result c.marked.ensures.refused
