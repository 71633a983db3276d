use Rattle.std.proofs.Common.{List, ℕ, [], ◌∷◌, None, sym, subst}
use Rattle.dt_lex.specs.declared.byte.Class.TheVariants as class
use Rattle.dt_lex.specs.Words.{Word, Then, Skips}
use Rattle.dt_lex.specs.Vocabulary.{CharacterWord}
use Rattle.dt_lex.specs.Letters.{ClosedCharacter}
use Rattle.dt_lex.proofs.WordLemmas.{word_then, no_first}
use Rattle.dt_lex.proofs.LetterLemmas.{skips_same, character_to, character_from, character_closed}
use Rattle.dt_lex.proofs.quoted.after_character.Goals as goal

abbrev quoted : List ℕ → Type 0
quoted = Then (Word (39 ∷ [])) (ClosedCharacter class.Single)

pub returns-in_err-inside-clause-exact : goal.returns-in_err-inside-clause-exact
returns-in_err-inside-clause-exact c =
    let s = c.args.text.now in
    let none = skips_same quoted CharacterWord character_to character_from s None (no_first s c.in_err-inside.ensures.exact) in
    subst (Skips CharacterWord s) (sym c.from_residual.ensures) none

pub returns-in_err-after_letter-clause-exact : goal.returns-in_err-after_letter-clause-exact
returns-in_err-after_letter-clause-exact c =
    let s = c.args.text.now in
    let t = c.in_ok-inside.inside.now in
    let stuck = word_then (ClosedCharacter class.Single) (39 ∷ []) s t c.in_ok-inside.ensures.exact None (no_first t c.in_err-after_letter.ensures.exact) in
    let none = skips_same quoted CharacterWord character_to character_from s None stuck in
    subst (Skips CharacterWord s) (sym c.from_residual-in_err-after_letter.ensures) none

pub returns-clause-exact : goal.returns-clause-exact
returns-clause-exact c =
    let s = c.args.text.now in
    let t = c.in_ok-inside.inside.now in
    let l = c.in_ok-after_letter.ensures.exact in
    let r = c.after_word-2.result in
    skips_same quoted CharacterWord character_to character_from s r
    (word_then (ClosedCharacter class.Single) (39 ∷ []) s t c.in_ok-inside.ensures.exact r
    (character_closed t l.0 c.in_ok-after_letter.field-0.now l.1 r c.after_word-2.ensures.exact))
