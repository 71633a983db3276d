use Rattle.std.proofs.Common.{[], ◌∷◌, refl}
use Rattle.dt_lex.specs.declared.byte.Class.TheVariants as class
use Rattle.dt_lex.specs.Bytes.{is_in}
use Rattle.dt_lex.specs.Words.{Each, Word}
use Rattle.dt_lex.proofs.WordLemmas.{no_first, not_starting, then_run, stops_word, starts_label}
use Rattle.dt_lex.proofs.word.after_label.Goals as goal

pub returns-then-not-begins-clause-exact : goal.returns-then-not-begins-clause-exact
returns-then-not-begins-clause-exact c =
    let s = c.args.text.now in
    no_first s (not_starting (is_in class.LabelStart) (Each (is_in class.Label)) s (λ b. let q = c.begins.ensures.1 b in let r = c.if-not-begins.true in cc))

pub returns-clause-exact : goal.returns-clause-exact
returns-clause-exact c =
    let s = c.args.text.now in
    let t = c.after_all.result.now in
    let b = c.begins.ensures.0 c.if-not-begins.false in
    let label = is_in class.Label in
    then_run label (is_in class.LabelStart) starts_label (Word (58 ∷ [])) (stops_word label (58 ∷ []) refl) s t b c.after_all.ensures.exact c.after_word.result c.after_word.ensures.exact
