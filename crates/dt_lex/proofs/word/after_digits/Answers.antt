use Rattle.dt_lex.specs.Bytes.{is_in}
use Rattle.dt_lex.specs.Words.{Each, Then}
use Rattle.dt_lex.specs.Vocabulary.{IntegerSuffix}
use Rattle.dt_lex.proofs.WordLemmas.{starting, then_each, digits_stop, runs_shorter, still_shorter}
use Rattle.dt_lex.proofs.word.after_digits.Goals as goal

pub returns-clause-exact : goal.returns-clause-exact
returns-clause-exact c =
    let s = c.args.text.now in
    let p = is_in c.args.class in
    let b = c.begins.ensures.0 c.if-not-begins.false in
    let short = runs_shorter p p (λ x h. h) s c.after_all.result.now b c.after_all.ensures.exact in
    starting p (Then (Each p) IntegerSuffix) s b c.after_suffix.result (still_shorter c.after_suffix.result s c.after_all.result.now short c.after_suffix.ensures.shorter) (then_each p IntegerSuffix (digits_stop c.args.class c.requires) s c.after_all.result.now c.after_all.ensures.exact c.after_suffix.result c.after_suffix.ensures.exact)
