use Rattle.std.proofs.Common.{Some}
use Rattle.dt_lex.specs.Bytes.{is_in}
use Rattle.dt_lex.specs.Words.{Each}
use Rattle.dt_lex.proofs.WordLemmas.{starting, all_some, runs_shorter}
use Rattle.dt_lex.proofs.word.after_run.Goals as goal

pub returns-clause-exact : goal.returns-clause-exact
returns-clause-exact c =
    let s = c.args.text.now in
    let b = c.begins.ensures.0 c.if-not-begins.false in
    let p = is_in c.args.class in
    starting p (Each p) s b (Some c.after_all.result) (runs_shorter p p (λ x h. h) s c.after_all.result.now b c.after_all.ensures.exact) (all_some p s c.after_all.result c.after_all.ensures.exact)
