use Rattle.std.proofs.Common.{sym, ◌∙◌, ◌++◌, ◌∷◌, []}
use Rattle.std.proofs.lemmas.Bool.{not-true, not-false}
use Rattle.dt_grammar.specs.Wanted.{made_value, OneValue}
use Rattle.dt_grammar.specs.Faults.{Around}
use Rattle.dt_parse.specs.Reading.{IsBroken}
use Rattle.dt_grammar.proofs.SameKinds.{same_next, other_next}
use Rattle.dt_parse.proofs.Leading.{handed_on, goes_nowhere, goes_on, goes_stop}
use Rattle.dt_parse.proofs.ReadValues.{labels_stop, item_breaks, behind_stop, component_read, last_read, component_goes, component_shorter, value_more}
use Rattle.dt_parse.proofs.ReadCells.{nothing_more}
use Rattle.dt_parse.proofs.value.components.Goals as goal

pub components-init : goal.components-init
components-init c = ([], goes_nowhere made_value OneValue (λ a. a) c.args.cursor.now, nothing_more c.args.items.now)

pub returns-in_err-skip_labels-clause-err : goal.returns-in_err-skip_labels-clause-err
returns-in_err-skip_labels-clause-err c =
    let i = c.components.invariant in
    handed_on c.from_residual.result c.in_err-skip_labels.field-0.0 (λ stop. (a : Around) → IsBroken a OneValue c.args.cursor.now stop) c.from_residual.ensures.1
    (goes_stop made_value OneValue (λ a. a) _ _ i.0 _ i.1 (labels_stop _ _ c.in_err-skip_labels.ensures.err))

pub returns-in_err-item-clause-err : goal.returns-in_err-item-clause-err
returns-in_err-item-clause-err c =
    let i = c.components.invariant in
    let r = c.in_ok-skip_labels.ensures.ok in
    handed_on c.from_residual-in_err-item.result c.in_err-item.field-0.0 (λ stop. (a : Around) → IsBroken a OneValue c.args.cursor.now stop) c.from_residual-in_err-item.ensures.1
    (goes_stop made_value OneValue (λ a. a) _ _ i.0 _ i.1 (item_breaks _ _ r.0 _ r.1 c.in_err-item.ensures.err))

pub returns-in_err-skip_labels-2-clause-err : goal.returns-in_err-skip_labels-2-clause-err
returns-in_err-skip_labels-2-clause-err c =
    let i = c.components.invariant in
    let r = c.in_ok-skip_labels.ensures.ok in
    let q = c.in_ok-item.ensures.ok in
    handed_on c.from_residual-in_err-skip_labels-2.result c.in_err-skip_labels-2.field-0.0 (λ stop. (a : Around) → IsBroken a OneValue c.args.cursor.now stop) c.from_residual-in_err-skip_labels-2.ensures.1
    (goes_stop made_value OneValue (λ a. a) _ _ i.0 _ i.1 (behind_stop _ _ _ r.0 q.0 _ r.1 q.1 c.in_err-skip_labels-2.ensures.err))

pub returns-then-ne-clause-ok : goal.returns-then-ne-clause-ok
returns-then-ne-clause-ok c =
    let i = c.components.invariant in
    let r = c.in_ok-skip_labels.ensures.ok in
    let q = c.in_ok-item.ensures.ok in
    let s = c.in_ok-skip_labels-2.ensures.ok in
    let read = component_read c.components.cursor _ _ c.skip_labels-in-components.new.cursor r.0 q.0 s.0 r.1 q.1 s.1 in
    let last = last_read c.components.cursor c.skip_labels-in-components.new.cursor _ read (λ e. other_next c.kind.result _ (not-true _ (sym c.if-ne.ensures)) (c.kind.ensures ∙ e)) in
    (i.0 ++ record { before = r.0; item = q.0; behind = s.0 } ∷ [], λ a. i.1.reads a _ c.skip_labels-in-components.new.cursor (last a), value_more c.args.items.now i.0 _ c.components.items c.item.new.items i.2 q.2)

pub components-smaller : goal.components-smaller
components-smaller c =
    let r = c.in_ok-skip_labels.ensures.ok in
    let q = c.in_ok-item.ensures.ok in
    let s = c.in_ok-skip_labels-2.ensures.ok in
    let read = component_read c.components.cursor _ _ c.skip_labels-in-components.new.cursor r.0 q.0 s.0 r.1 q.1 s.1 in
    component_shorter c.components.cursor c.skip_labels-in-components.new.cursor c.advance.new.self _ read (sym c.kind.ensures ∙ same_next c.kind.result _ (not-false _ (sym c.if-ne.ensures))) c.advance.ensures

pub components-preserved : goal.components-preserved
components-preserved c =
    let i = c.components.invariant in
    let r = c.in_ok-skip_labels.ensures.ok in
    let q = c.in_ok-item.ensures.ok in
    let s = c.in_ok-skip_labels-2.ensures.ok in
    let read = component_read c.components.cursor _ _ c.skip_labels-in-components.new.cursor r.0 q.0 s.0 r.1 q.1 s.1 in
    let e = sym c.kind.ensures ∙ same_next c.kind.result _ (not-false _ (sym c.if-ne.ensures)) in (
      i.0 ++ record { before = r.0; item = q.0; behind = s.0 } ∷ [],
      goes_on made_value OneValue (λ a. a) c.args.cursor.now c.components.cursor c.advance.new.self i.0 _ i.1 (component_goes c.components.cursor c.skip_labels-in-components.new.cursor c.advance.new.self _ read e c.advance.ensures),
      value_more c.args.items.now i.0 _ c.components.items c.item.new.items i.2 q.2,
    )
