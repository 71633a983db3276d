use Rattle.std.proofs.Common.{[], ◌∷◌}
use Rattle.dt_lex.specs.Vocabulary.{Closing}
use Rattle.dt_lex.proofs.WordLemmas.{word_then}
use Rattle.dt_lex.proofs.word.after_block_comment.Goals as goal

pub returns-clause-exact : goal.returns-clause-exact
returns-clause-exact c = word_then Closing (47 ∷ 42 ∷ []) c.args.text.now c.in_ok-after_word.field-0.now c.in_ok-after_word.ensures.exact c.after_closing.result c.after_closing.ensures.exact
