-- Texts between quotes.
use Rattle.std.proofs.Common.{◌≡◌, ℕ, zero, suc, ◌≤◌, Bool, true, false, List, [], ◌∷◌, ◌++◌, length, Some, inl, inr, refl, sym, ◌∙◌, ap, subst, append_assoc, arith, length-append}
use Rattle.std.specs.Prelude.{◌==◌, codes, if◌then◌else◌}
use Rattle.std.specs.Borrow.{Bor}
use Rattle.std.proofs.lemmas.Bool.{both_ways, eq-eqb, and_parts}
use Rattle.std.proofs.lemmas.List.{append-nil}
use Rattle.dt_lex.specs.declared.byte.Class.TheVariants as class
use Rattle.dt_lex.specs.declared.token.Mode.TheVariants as mode
use Rattle.dt_lex.specs.declared.token.Mark.TheVariants as mark
use Rattle.dt_lex.specs.declared.token.TokenKind.TheVariants as kind
use Rattle.dt_lex.specs.declared.rule.Rule.TheVariants as rule
use Rattle.dt_lex.specs.Words.{Word, Then, IsLongestWord, NoneFits, Skips}
use Rattle.dt_lex.specs.Vocabulary.{Escape, IsSimple, TextWord}
use Rattle.dt_lex.specs.Letters.{Letter, ClosedText}
use Rattle.dt_lex.specs.Lexing.{ends_line}
use Rattle.dt_lex.proofs.WordLemmas.{then_word}
use Rattle.dt_lex.proofs.QuotedLemmas.{same_front, simple_longest}
use Rattle.dt_lex.proofs.LetterLemmas.{letter_itself, closed_here, closed_go, skips_same, text_to, text_from}
use Rattle.dt_grammar.specs.Words.{Words}
use Rattle.dt_model.specs.Printed.{ends_texts, quoted, texts_from}
use Rattle.dt_decompile_laws.specs.Words.{text_words}
use Rattle.dt_decompile_laws.proofs.CutWords.{Cuts, word_cut}
use Rattle.dt_decompile_laws.proofs.MissedRules.{cut_at, CutsOn, mark_on, blanks_on}

-- a text as it stands between quotes
abbrev pub between : List ℕ → List ℕ
between [] = []
between (b ∷ v) = quoted b ++ between v

-- one byte more at the end
between_push : (v : List ℕ) (b : ℕ) → between (v ++ b ∷ []) ≡ between v ++ quoted b
between_push [] b = append-nil (quoted b)
between_push (c ∷ v) b = ap (λ (x : List ℕ). quoted c ++ x) (between_push v b) ∙ sym (append_assoc (quoted c) (between v) (quoted b))

-- ---- letters

-- the letter in front is the longest one, and no quote
abbrev IsLetter : List ℕ → List ℕ → Type 0
IsLetter w t = IsLongestWord (Letter class.Quoted) (w ++ t) w t × NoneFits (Word (34 ∷ [])) (w ++ t)

-- a byte that is no quote
begins_other : (b : ℕ) (t : List ℕ) → (b == 34) ≡ false → NoneFits (Word (34 ∷ [])) (b ∷ t)
begins_other b t n [] more e f = cc
begins_other b t n (c ∷ v) more e f =
    let same : b ≡ c = cc in
    let quote : c ≡ 34 = cc in
    both_ways _ n (eq-eqb b 34 (same ∙ quote))

-- a backslash and a byte that stands for itself behind it
escaped_letter : (c : ℕ) (t : List ℕ) → IsSimple c → IsLetter (92 ∷ c ∷ []) t
escaped_letter c t h = (record { split = refl; fits = inr l.fits; longest = most }, begins_other 92 (c ∷ t) refl)
  where
    l : IsLongestWord Escape (92 ∷ c ∷ t) (92 ∷ c ∷ []) t
    l = simple_longest c t h (92 ∷ c ∷ t) refl

    most : (v more : List ℕ) → 92 ∷ c ∷ t ≡ v ++ more → Letter class.Quoted v → length v ≤ 2
    most v more e (inl (b, g, i)) = omega (arith, ap length g)
    most v more e (inr k) = l.longest v more e k

-- a byte as it is printed
quoted_letter : (b : ℕ) (t : List ℕ) → IsLetter (quoted b) t
quoted_letter b t = at (b == 34) (b == 92) refl refl
  where
    at : (x y : Bool) → (b == 34) ≡ x → (b == 92) ≡ y → IsLetter (if x then codes "\\\"" else (if y then codes "\\\\" else b ∷ [])) t
    at true y e f = escaped_letter 34 t (refl, refl)
    at false true e f = escaped_letter 92 t (refl, refl)
    at false false e f = (letter_itself class.Quoted refl (b ∷ t) b t refl (rw (e, f) refl), begins_other b t e)

-- ---- a text

abbrev lent : List ℕ → Bor (List ℕ)
lent rest = record { ref_ptr = (0, 0); now = rest }

-- the inside of a text, and its closing quote
closed : (v rest : List ℕ) → Skips ClosedText (between v ++ 34 ∷ rest) (Some (lent rest))
closed [] rest = (34 ∷ [], closed_here (34 ∷ rest) rest refl)
closed (b ∷ v) rest =
    let letter = quoted_letter b (between v ++ 34 ∷ rest) in
    subst (λ (s : List ℕ). Skips ClosedText s (Some (lent rest))) (sym (append_assoc (quoted b) (between v) (34 ∷ rest)))
    (closed_go (quoted b ++ (between v ++ 34 ∷ rest)) (quoted b) (between v ++ 34 ∷ rest) letter.1 letter.0 (Some (lent rest)) (closed v rest))

-- a longest word by what is left behind it
known_word : (P : List ℕ → Type 0) (s w rest : List ℕ) → s ≡ w ++ rest → (x : List ℕ) × IsLongestWord P s x rest → IsLongestWord P s w rest
known_word P s w rest e (x, l) =
    let same = same_front x w rest rest (sym l.split ∙ e) (omega (arith, ap length l.split, ap length e, length-append x rest, length-append w rest)) in
    subst (λ (y : List ℕ). IsLongestWord P s y rest) same.0 l

-- a text is the longest at its place
longest_text : (v rest : List ℕ) → IsLongestWord TextWord (34 ∷ (between v ++ 34 ∷ rest)) (34 ∷ (between v ++ 34 ∷ [])) rest
longest_text v rest =
    known_word TextWord (34 ∷ (between v ++ 34 ∷ rest)) (34 ∷ (between v ++ 34 ∷ [])) rest
    (ap (λ (x : List ℕ). 34 ∷ x) (sym (append_assoc (between v) (34 ∷ []) rest)))
    (skips_same (Then (Word (34 ∷ [])) ClosedText) TextWord text_to text_from (34 ∷ (between v ++ 34 ∷ rest)) (Some (lent rest))
    (then_word ClosedText (34 ∷ []) (34 ∷ (between v ++ 34 ∷ rest)) (between v ++ 34 ∷ rest) refl (Some (lent rest)) (closed v rest)))

-- one text
text_on : (v rest : List ℕ) (ws : Words) → CutsOn mode.Plain rest ws →
    CutsOn mode.Plain (34 ∷ (between v ++ 34 ∷ rest)) (record { kind = kind.Text; bytes = 34 ∷ (between v ++ 34 ∷ []) } ∷ ws)
text_on v rest ws l fresh =
    let longest = longest_text v rest in
    word_cut rule.Text (34 ∷ (between v ++ 34 ∷ [])) rest kind.Text
    (cut_at mode.Plain fresh (34 ∷ (between v ++ 34 ∷ rest)) 24 rule.Text (34 ∷ (between v ++ 34 ∷ [])) rest refl refl
    (record { split = longest.split; fits = (refl, longest.fits); longest = λ w more e f. longest.longest w more e f.1 })
    (omega arith)) refl (l (ends_line (34 ∷ (between v ++ 34 ∷ []))))

-- ---- texts with commas between them

-- texts that begin go on
pub not_begun : (b : ℕ) (bytes : List ℕ) → ends_texts true (b ∷ bytes) ≡ true → ends_texts false (b ∷ bytes) ≡ true
not_begun zero bytes h = cc
not_begun (suc b) bytes h = h

-- inside of a text, of which some stands before
pub texts_on : (v bytes rest : List ℕ) (ws : Words) → ends_texts false bytes ≡ true → CutsOn mode.Plain rest ws →
    CutsOn mode.Plain (34 ∷ (between v ++ (texts_from bytes ++ rest))) (text_words (between v) bytes ++ ws)
texts_on v [] rest ws h l fresh = cc
texts_on v (zero ∷ []) rest ws h l fresh = text_on v rest ws l fresh
texts_on v (zero ∷ b ∷ bytes) rest ws h l fresh =
    let next = texts_on [] (b ∷ bytes) rest ws (not_begun b bytes h) l false in
    text_on v (44 ∷ 32 ∷ 34 ∷ (texts_from (b ∷ bytes) ++ rest)) _
    (λ f. mark_on mark.Comma 43 mode.Plain f (32 ∷ 34 ∷ (texts_from (b ∷ bytes) ++ rest)) _ refl refl (omega arith)
    (blanks_on mode.Plain false 32 [] (34 ∷ (texts_from (b ∷ bytes) ++ rest)) _ (refl, tt) refl next)) fresh
texts_on v (suc b ∷ bytes) rest ws h l fresh =
    let next = texts_on (v ++ suc b ∷ []) bytes rest ws (and_parts _ _ h).1 l fresh in
    let regroup = append_assoc (between v) (quoted (suc b)) (texts_from bytes ++ rest) ∙ ap (λ (x : List ℕ). between v ++ x) (sym (append_assoc (quoted (suc b)) (texts_from bytes) rest)) in
    subst (λ (s : List ℕ). Cuts mode.Plain fresh (34 ∷ s) (text_words (between v ++ quoted (suc b)) bytes ++ ws)) regroup
    (subst (λ (x : List ℕ). Cuts mode.Plain fresh (34 ∷ (x ++ (texts_from bytes ++ rest))) (text_words x bytes ++ ws)) (between_push v (suc b)) next)
