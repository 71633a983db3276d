use Rattle.std.proofs.Common.{[], ◌∷◌, refl}
use Rattle.dt_lex.specs.declared.byte.Class.TheVariants as class
use Rattle.dt_lex.specs.Bytes.{is_in}
use Rattle.dt_lex.specs.Words.{Each, Word, Then}
use Rattle.dt_lex.proofs.WordLemmas.{word_then, then_each, stops_word}
use Rattle.dt_lex.proofs.word.after_path_reference.Goals as goal

pub returns-clause-exact : goal.returns-clause-exact
returns-clause-exact c =
    let t = c.in_ok-path.path.now in
    let path = is_in class.Path in
    word_then (Then (Each path) (Word (125 ∷ []))) (38 ∷ 123 ∷ []) c.args.text.now t c.in_ok-path.ensures.exact c.after_word-2.result
    (then_each path (Word (125 ∷ [])) (stops_word path (125 ∷ []) refl) t c.after_all.result.now c.after_all.ensures.exact c.after_word-2.result c.after_word-2.ensures.exact)
