use Rattle.std.proofs.Common.{false, Bool, List, ◌∷◌, sym, ap, subst, ◌∙◌, true≢false}
use Rattle.std.specs.Prelude.{replicate}
use Rattle.std.proofs.lemmas.List.{get_or-replicate, length-replicate}
use Rattle.dt_read.specs.StepsLeft.{step_view}
use Rattle.dt_edit.proofs.PhandlesMet.{IsMarked, none_marked, marked_step, phandle_met, next_is, met, met_phandle}
use Rattle.dt_edit.proofs.numbers.free_number.Goals as goal

pub loop-step-init : goal.loop-step-init
loop-step-init c =
    let t = c.args.blob.now in
    let none : List Bool = replicate 65536 false in
    let whole = c.into_iter-step-iterator.ensures.into_iter_gives ∙ c.steps-step-items.ensures in
    (tt, tt, subst (IsMarked t c.args.last none) (sym whole) (none_marked t c.args.last none c.validity.ensures.valid (length-replicate 65536 false) (λ k lt. get_or-replicate 65536 k false false lt)))

pub loop-step-preserved-in-Some-phandle_of : goal.loop-step-preserved-in-Some-phandle_of
loop-step-preserved-in-Some-phandle_of c =
    let t = c.args.blob.now in
    let value = c.in-Property.value.now in
    let rest = c.next.new.self in
    let e = c.in-Some.ensures.steps ∙ ap (λ s. step_view s ∷ rest) c.in-Property.is in
    let same = ap met e ∙ met_phandle c.in-Property.name.now value rest (c.is_phandle.ensures.0 c.if-is_phandle.true) in
    (tt, tt, marked_step t c.args.last c.loop-step.taken c.mark.new.taken c.loop-step.step-iterator rest value c.in-Some-phandle_of.number c.loop-step.invariant.2 same c.in-Some-phandle_of.ensures.number c.mark.ensures.long c.mark.ensures.marked)

pub loop-step-preserved-in_default-phandle_of : goal.loop-step-preserved-in_default-phandle_of
loop-step-preserved-in_default-phandle_of c =
    let t = c.args.blob.now in
    let value = c.in-Property.value.now in
    let rest = c.next.new.self in
    let e = c.in-Some.ensures.steps ∙ ap (λ s. step_view s ∷ rest) c.in-Property.is in
    let same = ap met e ∙ met_phandle c.in-Property.name.now value rest (c.is_phandle.ensures.0 c.if-is_phandle.true) in
    absurd (true≢false (sym (c.in_default-phandle_of.ensures.valid.1 (phandle_met t c.args.last c.loop-step.taken c.loop-step.step-iterator rest value c.validity.ensures.valid c.loop-step.invariant.2 same))))

pub returns : goal.returns
returns c =
    let t = c.args.blob.now in
    let m = subst (IsMarked t c.args.last c.loop-step.taken) c.in-None.ensures.steps.0 c.loop-step.invariant.2 in
    next_is t c.args.last c.first_free.result c.loop-step.taken c.validity.ensures.within m c.first_free.ensures.within c.first_free.ensures.front c.first_free.ensures.free
