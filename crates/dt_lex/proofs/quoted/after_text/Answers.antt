use Rattle.std.proofs.Common.{[], ◌∷◌, None, sym, subst}
use Rattle.dt_lex.specs.Words.{Word, Then, Skips}
use Rattle.dt_lex.specs.Vocabulary.{TextWord}
use Rattle.dt_lex.specs.Letters.{ClosedText}
use Rattle.dt_lex.proofs.WordLemmas.{word_then, no_first}
use Rattle.dt_lex.proofs.LetterLemmas.{skips_same, text_to, text_from}
use Rattle.dt_lex.proofs.quoted.after_text.Goals as goal

pub returns-in_err-after_word-clause-exact : goal.returns-in_err-after_word-clause-exact
returns-in_err-after_word-clause-exact c =
    let s = c.args.text.now in
    let none = skips_same (Then (Word (34 ∷ [])) ClosedText) TextWord text_to text_from s None (no_first s c.in_err-after_word.ensures.exact) in
    subst (Skips TextWord s) (sym c.from_residual.ensures) none

pub returns-clause-exact : goal.returns-clause-exact
returns-clause-exact c =
    let s = c.args.text.now in
    skips_same (Then (Word (34 ∷ [])) ClosedText) TextWord text_to text_from s c.after_inside.result
    (word_then ClosedText (34 ∷ []) s c.in_ok-after_word.field-0.now c.in_ok-after_word.ensures.exact c.after_inside.result c.after_inside.ensures.exact)
