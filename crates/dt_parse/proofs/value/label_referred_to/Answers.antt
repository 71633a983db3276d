use Rattle.std.proofs.Common.{rules, ◌≡◌, ◌≢◌, ◌∙◌, length, slice_index, refl, subst, sym, drop}
use Rattle.std.proofs.lemmas.List.{take_rest}
use Rattle.dt_model.specs.Names.{IsLabel}
use Rattle.dt_grammar.proofs.PathTexts.{begun_label, no_label}
use Rattle.dt_parse.proofs.value.label_referred_to.Goals as goal

pub returns-in-Ok : goal.returns-in-Ok
returns-in-Ok c =
    let bytes = c.args.bytes.now in
    let some : length bytes ≢ 0 = search rules in
    let begins : slice_index bytes 0 ≡ 38 = search rules in
    (begun_label bytes some begins (subst IsLabel (take_rest bytes 1) (c.in-Ok.ensures.valid.0 refl)), c.in-Ok.ensures.value ∙ take_rest bytes 1)

pub returns-in-Err : goal.returns-in-Err
returns-in-Err c =
    let bytes = c.args.bytes.now in
    let unlabelled : ¬ IsLabel (drop 1 bytes) = λ l. search (rules, c.in-Err.ensures.valid.1 (subst IsLabel (sym (take_rest bytes 1)) l)) in
    no_label bytes unlabelled
