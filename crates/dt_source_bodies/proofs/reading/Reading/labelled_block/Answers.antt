use Rattle.std.proofs.Common.{◌≡◌, ◌+◌, ◌∷◌, [], Ok, Result, codes, sym, subst, ap, ◌∙◌}
use Rattle.std.proofs.lemmas.Result.{err_from_is_err_and}
use Rattle.dt_model.specs.Source.{base, block, by_label, number_of, read, outside, Reference}
use Rattle.dt_model.specs.OverlaySource.{open_fragment, fragment_name, read_overlay, with_next, OverlaySoFar, OverlayRefusal}
use Rattle.dt_source_items.specs.Said.{reference_of}
use Rattle.dt_source_growing.specs.Grown.{target_value}
use Rattle.dt_source_bodies.specs.OverlayReading.{TellsOverlayRefusal, OverlayGoesOn, free_number}
use Rattle.dt_source_bodies.specs.Reading.{GoesOn}
use Rattle.dt_source_bodies.specs.Refusals.{TellsRefusal}
use Rattle.dt_source_bodies.specs.declared.reading.Reading.{Reading}
use Rattle.dt_source_bodies.proofs.OverlaySteps.{next_goes, next_tells, known_block, unknown_block, fragment_step}
use Rattle.dt_source_bodies.proofs.Targets.{grown_so_far}
use Rattle.dt_source_bodies.proofs.reading.Reading.labelled_block.Goals as goal

pub returns-in_err-block-in-Some-clause-meaning : goal.returns-in_err-block-in-Some-clause-meaning
returns-in_err-block-in-Some-clause-meaning c = λ written s h name.
    let r : Reading = c.args.self.now in
    let l = c.args.label.now in
    let p = c.in-Some.ensures.named s.source.events (grown_so_far r c.args.item s.source c.requires.whole h) in
    let q = err_from_is_err_and c.from_residual.result c.from_residual.ensures.1 in
    let tells = subst (λ (f : Reference). TellsRefusal (read base s.source (block f)) c.in_err-block-in-Some.field-0.0) c.requires.labelled (c.in_err-block-in-Some.ensures.meaning base s.source h) in
    let known : read_overlay written s (block (reference_of c.args.reference.now)) ≡ with_next s.next (read base s.source (block (by_label l))) =
    ap (λ (f : Reference). read_overlay written s (block f)) c.requires.labelled ∙ known_block written s l p.0 p.1 in
    rw (q.1, q.2) (subst (λ (o : Result OverlaySoFar OverlayRefusal). TellsOverlayRefusal o c.in_err-block-in-Some.field-0.0) (sym known) (next_tells (read base s.source (block (by_label l))) s.next c.in_err-block-in-Some.field-0.0 tells))

pub returns-in_ok-block-in-Some-clause-meaning : goal.returns-in_ok-block-in-Some-clause-meaning
returns-in_ok-block-in-Some-clause-meaning c = λ written s h name.
    let r : Reading = c.args.self.now in
    let l = c.args.label.now in
    let p = c.in-Some.ensures.named s.source.events (grown_so_far r c.args.item s.source c.requires.whole h) in
    let goes = subst (λ (f : Reference). GoesOn (read base s.source (block f)) c.block.new.self (c.args.item + 1)) c.requires.labelled (c.in_ok-block-in-Some.ensures.meaning base s.source h) in
    let known : read_overlay written s (block (reference_of c.args.reference.now)) ≡ with_next s.next (read base s.source (block (by_label l))) =
    ap (λ (f : Reference). read_overlay written s (block f)) c.requires.labelled ∙ known_block written s l p.0 p.1 in
    subst (λ (o : Result OverlaySoFar OverlayRefusal). OverlayGoesOn o c.block.new.self (c.args.item + 1) s.next) (sym known)
    (next_goes (read base s.source (block (by_label l))) c.block.new.self (c.args.item + 1) s.next goes)

pub returns-in_err-open_fragment-in-None-clause-meaning : goal.returns-in_err-open_fragment-in-None-clause-meaning
returns-in_err-open_fragment-in-None-clause-meaning c = λ written s h name.
    let r : Reading = c.args.self.now in
    let l = c.args.label.now in
    let none = c.in-None.ensures.named s.source.events (grown_so_far r c.args.item s.source c.requires.whole h) in
    let q = err_from_is_err_and c.from_residual-in_err-open_fragment-in-None.result c.from_residual-in_err-open_fragment-in-None.ensures.1 in
    let fault = c.in_err-open_fragment-in-None.field-0.0 in
    let value : target_value (reference_of c.args.reference.now) ≡ number_of (by_label l) ∷ [] = ap target_value c.requires.labelled in
    let made = outside s.source.bodies (Ok (open_fragment (fragment_name (free_number written s)) (codes "target") (number_of (by_label l) ∷ []) s.source)) in
    let tells : TellsRefusal made fault = fragment_step s c.args.name.now (fragment_name (free_number written s)) (codes "target") (target_value (reference_of c.args.reference.now)) (number_of (by_label l) ∷ [])
    (λ o. TellsRefusal o fault) name value (c.in_err-open_fragment-in-None.ensures.meaning s.source h) in
    let unknown : read_overlay written s (block (reference_of c.args.reference.now)) ≡ with_next (free_number written s + 1) made =
    ap (λ (f : Reference). read_overlay written s (block f)) c.requires.labelled ∙ unknown_block written s l none in
    rw (q.1, q.2) (subst (λ (o : Result OverlaySoFar OverlayRefusal). TellsOverlayRefusal o fault) (sym unknown) (next_tells made (free_number written s + 1) fault tells))

pub returns-in_ok-open_fragment-in-None-clause-meaning : goal.returns-in_ok-open_fragment-in-None-clause-meaning
returns-in_ok-open_fragment-in-None-clause-meaning c = λ written s h name.
    let r : Reading = c.args.self.now in
    let l = c.args.label.now in
    let none = c.in-None.ensures.named s.source.events (grown_so_far r c.args.item s.source c.requires.whole h) in
    let new : Reading = c.open_fragment.new.self in
    let value : target_value (reference_of c.args.reference.now) ≡ number_of (by_label l) ∷ [] = ap target_value c.requires.labelled in
    let made = outside s.source.bodies (Ok (open_fragment (fragment_name (free_number written s)) (codes "target") (number_of (by_label l) ∷ []) s.source)) in
    let goes : GoesOn made new (c.args.item + 1) = fragment_step s c.args.name.now (fragment_name (free_number written s)) (codes "target") (target_value (reference_of c.args.reference.now)) (number_of (by_label l) ∷ [])
    (λ o. GoesOn o new (c.args.item + 1)) name value (c.in_ok-open_fragment-in-None.ensures.meaning s.source h) in
    let unknown : read_overlay written s (block (reference_of c.args.reference.now)) ≡ with_next (free_number written s + 1) made =
    ap (λ (f : Reference). read_overlay written s (block f)) c.requires.labelled ∙ unknown_block written s l none in
    subst (λ (o : Result OverlaySoFar OverlayRefusal). OverlayGoesOn o new (c.args.item + 1) (free_number written s + 1)) (sym unknown) (next_goes made new (c.args.item + 1) (free_number written s + 1) goes)
