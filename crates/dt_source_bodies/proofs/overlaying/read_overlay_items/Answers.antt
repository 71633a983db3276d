use Rattle.std.proofs.Common.{◌≡◌, ◌+◌, ℕ, None, Ok, Result, List, [], ◌∷◌, drop, length, refl, sym, ap, subst, ◌∙◌, arith}
use Rattle.std.proofs.lemmas.List.{drop_all}
use Rattle.std.proofs.lemmas.Result.{err_from_is_err_and}
use Rattle.dt_model.specs.Source.{Place}
use Rattle.dt_model.specs.OverlaySource.{OverlaySoFar, OverlayRefusal, root_children, overlay_start, read_overlay, read_overlays}
use Rattle.dt_source_items.specs.Said.{place_said}
use Rattle.dt_source_items.proofs.PlaceLists.{places_from}
use Rattle.dt_source_bodies.specs.OverlayReading.{TellsOverlayRefusal}
use Rattle.dt_source_bodies.specs.Arena.{IsLeft, all_overlay}
use Rattle.dt_source_bodies.specs.Reading.{Holds}
use Rattle.dt_source_bodies.proofs.ArenaSteps.{goes_with, tells_first, read_on, all_left}
use Rattle.dt_source_bodies.proofs.overlaying.read_overlay_items.Goals as goal

pub loop-item-init : goal.loop-item-init
loop-item-init c =
    let places = c.args.items.now.places in
    record { whole = c.requires.whole; rooted = c.requires.rooted; goes = (overlay_start, refl, c.requires.start, all_left places c.args.arena.now c.requires.arena) }

pub overlay_item-requires-clause-left : goal.overlay_item-requires-clause-left
overlay_item-requires-clause-left c =
    let written = root_children None c.args.items.now.places in
    let g = c.loop-item.invariant.goes in
    let n = c.loop-item.item in
    let x = place_said c.get.result in (
      written,
      g.0.next,
      drop (n + 1) c.args.items.now.places,
      subst (λ (ps : List Place). IsLeft written c.args.arena.now c.loop-item.used g.0.next ps) (places_from c.args.items.now.places n x c.get.ensures) g.3,
    )

pub returns-in_err-used : goal.returns-in_err-used
returns-in_err-used c =
    let places = c.args.items.now.places in
    let written = root_children None places in
    let g = c.loop-item.invariant.goes in
    let n = c.loop-item.item in
    let x = place_said c.get.result in
    let rest = drop (n + 1) c.args.items.now.places in
    let split = places_from c.args.items.now.places n x c.get.ensures in
    let left = subst (λ (ps : List Place). IsLeft written c.args.arena.now c.loop-item.used g.0.next ps) split g.3 in
    let fault = c.in_err-used.field-0.0 in
    let q = err_from_is_err_and c.from_residual.result c.from_residual.ensures.1 in
    let whole : read_overlays written g.0 (x ∷ rest) ≡ all_overlay places = ap (read_overlays written g.0) (sym split) ∙ g.1 in
    rw (q.1, q.2) (subst (λ (o : Result OverlaySoFar OverlayRefusal). TellsOverlayRefusal o fault) whole (tells_first written g.0 x rest fault (c.in_err-used.ensures.meaning written g.0 rest g.2 left)))

pub loop-item-preserved : goal.loop-item-preserved
loop-item-preserved c =
    let places = c.args.items.now.places in
    let written = root_children None places in
    let g = c.loop-item.invariant.goes in
    let n = c.loop-item.item in
    let x = place_said c.get.result in
    let rest = drop (n + 1) c.args.items.now.places in
    let split = places_from c.args.items.now.places n x c.get.ensures in
    let left = subst (λ (ps : List Place). IsLeft written c.args.arena.now c.loop-item.used g.0.next ps) split g.3 in
    let whole : read_overlays written g.0 (x ∷ rest) ≡ all_overlay places = ap (read_overlays written g.0) (sym split) ∙ g.1 in
    let t = goes_with written (read_overlay written g.0 x) c.overlay_item.new.self (n + 1) c.args.arena.now c.in_ok-used.used rest (c.in_ok-used.ensures.meaning written g.0 rest g.2 left) in
    record {
      whole = c.in_ok-used.ensures.whole;
      rooted = c.in_ok-used.ensures.rooted;
      goes = (t.0, sym (read_on written g.0 t.0 x rest t.1) ∙ whole, t.2, t.3);
    }

pub returns : goal.returns
returns c =
    let places = c.args.items.now.places in
    let written = root_children None places in
    let g = c.loop-item.invariant.goes in
    let n = c.loop-item.item in
    let size : n ≡ length places = omega (arith, c.loop-item.auto.item-end, c.loop-item-test.false, c.len-item-end.ensures) in
    let none : drop n places ≡ [] = drop_all n places (omega (arith, size)) in
    let all : all_overlay places ≡ Ok g.0 = sym g.1 ∙ ap (read_overlays written g.0) none in
    (c.loop-item.invariant.whole, g.0, all, subst (λ (k : ℕ). Holds c.loop-item.reading k g.0.source) size g.2)
