use Rattle.std.proofs.Common.{rules, ◌≡◌, ◌≢◌, ◌-◌, List, ℕ, length, take, slice_index, refl, ◌∙◌, subst}
use Rattle.dt_grammar.specs.Unchecked.{all_but_last}
use Rattle.dt_grammar.specs.Strict.{IsLabelText}
use Rattle.dt_grammar.proofs.PathTexts.{label_text, front_of}
use Rattle.dt_parse.proofs.value.label.Goals as goal

pub returns-in-Ok : goal.returns-in-Ok
returns-in-Ok c =
    let bytes = c.bytes-bytes.result.now in
    let some : length bytes ≢ 0 = search rules in
    let colon : slice_index bytes (length bytes - 1) ≡ 58 = search rules in
    let r = label_text bytes (take (length bytes - 1) bytes) (front_of bytes some colon) (c.in-Ok.ensures.valid.0 refl) in
    subst (λ (z : List ℕ). IsLabelText z × (c.in-Ok.label ≡ all_but_last z)) c.bytes-bytes.ensures (r.0, c.in-Ok.ensures.value ∙ r.1)
