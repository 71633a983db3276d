use Rattle.std.proofs.Common.{Some}
use Rattle.dt_lex.specs.Bytes.{is_in}
use Rattle.dt_lex.specs.Words.{Each}
use Rattle.dt_lex.specs.declared.byte.Class.TheVariants as class
use Rattle.dt_lex.proofs.WordLemmas.{starting, all_some, runs_shorter, starts_label}
use Rattle.dt_lex.proofs.word.after_identifier.Goals as goal

pub returns-clause-exact : goal.returns-clause-exact
returns-clause-exact c =
    let s = c.args.text.now in
    let b = c.begins.ensures.0 c.if-not-begins.false in
    let label = is_in class.Label in
    starting (is_in class.LabelStart) (Each label) s b (Some c.after_all.result) (runs_shorter label (is_in class.LabelStart) starts_label s c.after_all.result.now b c.after_all.ensures.exact) (all_some label s c.after_all.result c.after_all.ensures.exact)
