use Rattle.std.proofs.Common.{refl, sym, ◌∙◌, ap, inl, inr, length}
use Rattle.std.proofs.lemmas.Bool.{not-true, not-false}
use Rattle.dt_grammar.proofs.SameKinds.{same_next, other_next}
use Rattle.dt_parse.proofs.body.name_ends.Goals as goal

pub returns-then-ne-clause-err : goal.returns-then-ne-clause-err
returns-then-ne-clause-err c = (c.stop.ensures.kind, inl (λ e. other_next c.kind.result _ (not-true _ (sym c.if-ne.ensures)) (c.kind.ensures ∙ e), c.stop.ensures.left))

pub returns-then-ne-2-clause-err : goal.returns-then-ne-2-clause-err
returns-then-ne-2-clause-err c =
    let named = sym c.kind.ensures ∙ same_next c.kind.result _ (not-false _ (sym c.if-ne.ensures)) in
    (c.stop-then-ne-2.ensures.kind, inr (named, (λ e. other_next c.second.result _ (not-true _ (sym c.if-ne-2.ensures)) (c.second.ensures ∙ e)), c.stop-then-ne-2.ensures.left ∙ ap length c.advance.ensures))

pub returns-clause-ok : goal.returns-clause-ok
returns-clause-ok c =
    let named = sym c.kind.ensures ∙ same_next c.kind.result _ (not-false _ (sym c.if-ne.ensures)) in
    let ended = sym c.second.ensures ∙ same_next c.second.result _ (not-false _ (sym c.if-ne-2.ensures)) in
    (named, ended, refl)
