use Rattle.std.proofs.Common.{[], ◌∷◌}
use Rattle.dt_lex.specs.Vocabulary.{Identifier}
use Rattle.dt_lex.proofs.WordLemmas.{word_then}
use Rattle.dt_lex.proofs.word.after_label_reference.Goals as goal

pub returns-clause-exact : goal.returns-clause-exact
returns-clause-exact c = word_then Identifier (38 ∷ []) c.args.text.now c.in_ok-after_word.field-0.now c.in_ok-after_word.ensures.exact c.after_identifier.result c.after_identifier.ensures.exact
