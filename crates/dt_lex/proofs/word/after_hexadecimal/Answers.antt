use Rattle.dt_lex.specs.declared.byte.Class.TheVariants as class
use Rattle.dt_lex.specs.Vocabulary.{Digits}
use Rattle.dt_lex.proofs.WordLemmas.{word_then}
use Rattle.dt_lex.proofs.word.after_hexadecimal.Goals as goal

pub returns-clause-exact : goal.returns-clause-exact
returns-clause-exact c = word_then (Digits class.Hex) c.args.prefix.now c.args.text.now c.in_ok-after_word.field-0.now c.in_ok-after_word.ensures.exact c.after_digits.result c.after_digits.ensures.exact
