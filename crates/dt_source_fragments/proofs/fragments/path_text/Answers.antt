use Rattle.std.proofs.Common.{◌++◌, ◌∷◌, [], sym, ◌∙◌}
use Rattle.dt_source_fragments.proofs.FragmentSteps.{no_pieces, no_path_text, no_items, some_items}
use Rattle.dt_source_fragments.proofs.fragments.path_text.Goals as goal

pub returns-then-not-is_empty : goal.returns-then-not-is_empty
returns-then-not-is_empty c = λ text is e. some_items c.args.value.now.pieces (sym c.is_empty.ensures ∙ c.if-not-is_empty.true) (no_pieces c.args.value.now (text ++ 0 ∷ []) e)

pub returns-in_err-new : goal.returns-in_err-new
returns-in_err-new c =
    rw c.from_residual-in_err-new.ensures (λ text is e.
    no_path_text c.args.value.now text c.in_ok-last.text.now c.in_ok-last.last.now (no_items c.args.value.now.pieces (sym c.is_empty.ensures ∙ c.if-not-is_empty.false))
    (sym c.as_slice.ensures.value ∙ c.in_ok-last.ensures.cases.0) (λ p of. c.in_err-new.ensures p of) is e)
