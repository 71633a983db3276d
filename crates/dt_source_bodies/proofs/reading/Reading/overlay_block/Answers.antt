use Rattle.std.proofs.Common.{◌≡◌, ◌+◌, Ok, map, Result, codes, sym, subst, ap}
use Rattle.std.proofs.lemmas.Result.{err_from_is_err_and}
use Rattle.dt_model.specs.Path.{path_value}
use Rattle.dt_model.specs.Source.{block, by_path, one, outside, Reference}
use Rattle.dt_model.specs.OverlaySource.{open_fragment, fragment_name, read_overlay, with_next, OverlaySoFar, OverlayRefusal}
use Rattle.dt_source_items.specs.Said.{reference_of}
use Rattle.dt_source_growing.specs.Grown.{target_value}
use Rattle.dt_source_bodies.specs.OverlayReading.{TellsOverlayRefusal, OverlayGoesOn, free_number}
use Rattle.dt_source_bodies.specs.Reading.{GoesOn}
use Rattle.dt_source_bodies.specs.Refusals.{TellsRefusal}
use Rattle.dt_source_bodies.specs.declared.reading.Reading.{Reading}
use Rattle.dt_source_bodies.proofs.OverlaySteps.{next_goes, next_tells, fragment_step}
use Rattle.dt_source_bodies.proofs.reading.Reading.overlay_block.Goals as goal

pub returns-in_err-open_fragment-in-Path-clause-meaning : goal.returns-in_err-open_fragment-in-Path-clause-meaning
returns-in_err-open_fragment-in-Path-clause-meaning c = λ written s h name.
    let p = c.in-Path.field-0 in
    let q = err_from_is_err_and c.from_residual.result c.from_residual.ensures.1 in
    let fault = c.in_err-open_fragment-in-Path.field-0.0 in
    let is : reference_of c.args.reference.now ≡ by_path p = ap reference_of c.in-Path.is in
    let value : target_value (reference_of c.args.reference.now) ≡ map one (path_value p) = ap target_value is in
    let made = outside s.source.bodies (Ok (open_fragment (fragment_name (free_number written s)) (codes "target-path") (map one (path_value p)) s.source)) in
    let tells : TellsRefusal made fault = fragment_step s c.args.name.now (fragment_name (free_number written s)) (codes "target-path") (target_value (reference_of c.args.reference.now)) (map one (path_value p))
    (λ o. TellsRefusal o fault) name value (c.in_err-open_fragment-in-Path.ensures.meaning s.source h) in
    let same : read_overlay written s (block (reference_of c.args.reference.now)) ≡ with_next (free_number written s + 1) made = ap (λ (f : Reference). read_overlay written s (block f)) is in
    rw (q.1, q.2) (subst (λ (o : Result OverlaySoFar OverlayRefusal). TellsOverlayRefusal o fault) (sym same) (next_tells made (free_number written s + 1) fault tells))

pub returns-in_ok-open_fragment-in-Path-clause-meaning : goal.returns-in_ok-open_fragment-in-Path-clause-meaning
returns-in_ok-open_fragment-in-Path-clause-meaning c = λ written s h name.
    let p = c.in-Path.field-0 in
    let new : Reading = c.open_fragment.new.self in
    let is : reference_of c.args.reference.now ≡ by_path p = ap reference_of c.in-Path.is in
    let value : target_value (reference_of c.args.reference.now) ≡ map one (path_value p) = ap target_value is in
    let made = outside s.source.bodies (Ok (open_fragment (fragment_name (free_number written s)) (codes "target-path") (map one (path_value p)) s.source)) in
    let goes : GoesOn made new (c.args.item + 1) = fragment_step s c.args.name.now (fragment_name (free_number written s)) (codes "target-path") (target_value (reference_of c.args.reference.now)) (map one (path_value p))
    (λ o. GoesOn o new (c.args.item + 1)) name value (c.in_ok-open_fragment-in-Path.ensures.meaning s.source h) in
    let same : read_overlay written s (block (reference_of c.args.reference.now)) ≡ with_next (free_number written s + 1) made = ap (λ (f : Reference). read_overlay written s (block f)) is in
    subst (λ (o : Result OverlaySoFar OverlayRefusal). OverlayGoesOn o new (c.args.item + 1) (free_number written s + 1)) (sym same) (next_goes made new (c.args.item + 1) (free_number written s + 1) goes)
