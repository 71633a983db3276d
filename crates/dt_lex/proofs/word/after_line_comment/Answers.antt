use Rattle.std.proofs.Common.{[], ◌∷◌, Some}
use Rattle.dt_lex.specs.declared.byte.Class.TheVariants as class
use Rattle.dt_lex.specs.Bytes.{is_in}
use Rattle.dt_lex.specs.Words.{Each}
use Rattle.dt_lex.proofs.WordLemmas.{word_then, all_some}
use Rattle.dt_lex.proofs.word.after_line_comment.Goals as goal

pub returns-clause-exact : goal.returns-clause-exact
returns-clause-exact c =
    let t = c.in_ok-after_word.field-0.now in
    word_then (Each (is_in class.Line)) (47 ∷ 47 ∷ []) c.args.text.now t c.in_ok-after_word.ensures.exact (Some c.after_line.result) (all_some (is_in class.Line) t c.after_line.result c.after_line.ensures.exact)
