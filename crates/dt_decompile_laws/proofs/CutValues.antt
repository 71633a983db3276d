-- The text of a value is cut into the value's words.
use Rattle.std.proofs.Common.{◌≡◌, ℕ, suc, ◌<◌, Bool, true, false, List, [], ◌∷◌, ◌++◌, length, refl, sym, subst, append_assoc, arith}
use Rattle.std.specs.Prelude.{◌==◌, ◌/◌, ◌%◌, codes, if◌then◌else◌}
use Rattle.std.specs.Int.{w32, from_be_bytes}
use Rattle.std.proofs.lemmas.Bool.{eqb-true, eq-eqb, false_from_ne_true}
use Rattle.dt_lex.specs.declared.byte.Class.TheVariants as class
use Rattle.dt_lex.specs.declared.token.Mode.TheVariants as mode
use Rattle.dt_lex.specs.declared.token.Mark.TheVariants as mark
use Rattle.dt_lex.specs.declared.token.TokenKind.TheVariants as kind
use Rattle.dt_lex.specs.Bytes.{is_in}
use Rattle.dt_lex.specs.Words.{Stops}
use Rattle.dt_grammar.specs.Words.{Words}
use Rattle.dt_model.specs.Printed.{hexadecimal, significant, are_texts, texts_from, cells_text, bytes_text, value_text}
use Rattle.dt_decompile_laws.specs.Words.{mark_word, cell_word, cell_words, byte_words, text_words, value_words}
use Rattle.dt_decompile_laws.proofs.CutWords.{Cuts}
use Rattle.dt_decompile_laws.proofs.MissedRules.{CutsOn, mark_on, blanks_on}
use Rattle.dt_decompile_laws.proofs.NamedRuns.{Ended, name_not_blank, hex_named, byte_on, integer_at}
use Rattle.dt_decompile_laws.proofs.QuotedTexts.{not_begun, texts_on}
use Rattle.dt_decompile_laws.proofs.WrittenNumbers.{AreBytes, figure, pair_of, cell_some, cell_digits, cell_integer}

-- ---- cells

-- the digits of a cell
one_cell : (a b c d : ℕ) (rest : List ℕ) (ws : Words) → AreBytes (a ∷ b ∷ c ∷ d ∷ []) → Ended rest → CutsOn mode.Plain rest ws →
    Cuts mode.Plain false (48 ∷ 120 ∷ (significant (hexadecimal (a ∷ b ∷ c ∷ d ∷ [])) ++ rest)) (cell_word (a ∷ b ∷ c ∷ d ∷ []) ∷ ws)
one_cell a b c d rest ws h z l =
    integer_at (significant (hexadecimal (a ∷ b ∷ c ∷ d ∷ []))) rest ws (from_be_bytes w32 (a ∷ b ∷ c ∷ d ∷ []))
    (cell_some a b c d) (cell_digits a b c d h) z (cell_integer a b c d h) l

-- cells begin with a digit
cells_begin : (bs rest : List ℕ) → 0 < length bs → (length bs % 4 == 0) ≡ true → (t : List ℕ) × (cells_text bs ++ rest ≡ 48 ∷ t)
cells_begin [] rest l h = absurd (omega (arith, l))
cells_begin (a ∷ []) rest l h = cc
cells_begin (a ∷ b ∷ []) rest l h = cc
cells_begin (a ∷ b ∷ c ∷ []) rest l h = cc
cells_begin (a ∷ b ∷ c ∷ d ∷ []) rest l h = (_, refl)
cells_begin (a ∷ b ∷ c ∷ d ∷ e ∷ bs) rest l h = (_, refl)

-- behind a cell whole cells are left
fours_behind : (n : ℕ) → (suc (suc (suc (suc n))) % 4 == 0) ≡ true → (n % 4 == 0) ≡ true
fours_behind n h = eq-eqb (n % 4) 0 (omega (arith, eqb-true _ _ h))

-- a digit is no blank
not_blank : (rest : List ℕ) → (t : List ℕ) × (rest ≡ 48 ∷ t) → Stops (is_in class.Blank) rest
not_blank rest (t, e) = subst (Stops (is_in class.Blank)) (sym e) refl

-- the cells of a value, up to `>`
cells_on : (bs rest : List ℕ) (ws : Words) → AreBytes bs → 0 < length bs → (length bs % 4 == 0) ≡ true → CutsOn mode.Plain (62 ∷ rest) ws →
    Cuts mode.Plain false (cells_text bs ++ 62 ∷ rest) (cell_words bs ++ ws)
cells_on [] rest ws h some l on = absurd (omega (arith, some))
cells_on (a ∷ []) rest ws h some l on = cc
cells_on (a ∷ b ∷ []) rest ws h some l on = cc
cells_on (a ∷ b ∷ c ∷ []) rest ws h some l on = cc
cells_on (a ∷ b ∷ c ∷ d ∷ []) rest ws h some l on = one_cell a b c d (62 ∷ rest) ws h refl on
cells_on (a ∷ b ∷ c ∷ d ∷ e ∷ bs) rest ws h some l on =
    let fours = fours_behind (length (e ∷ bs)) l in
    let next = cells_on (e ∷ bs) rest ws h.1.1.1.1 (omega arith) fours on in
    let digits = significant (hexadecimal (a ∷ b ∷ c ∷ d ∷ [])) in
    subst (λ (s : List ℕ). Cuts mode.Plain false (48 ∷ 120 ∷ s) (cell_word (a ∷ b ∷ c ∷ d ∷ []) ∷ (cell_words (e ∷ bs) ++ ws)))
    (sym (append_assoc digits (32 ∷ cells_text (e ∷ bs)) (62 ∷ rest)))
    (one_cell a b c d (32 ∷ (cells_text (e ∷ bs) ++ 62 ∷ rest)) (cell_words (e ∷ bs) ++ ws) (h.0, (h.1.0, (h.1.1.0, (h.1.1.1.0, tt)))) refl
    (λ f. blanks_on mode.Plain f 32 [] (cells_text (e ∷ bs) ++ 62 ∷ rest) (cell_words (e ∷ bs) ++ ws) (refl, tt)
    (not_blank _ (cells_begin (e ∷ bs) (62 ∷ rest) (omega arith) fours)) next))

-- ---- bytes

-- bytes begin with no blank
bytes_begin : (c : ℕ) (bs rest : List ℕ) → c < 256 → Stops (is_in class.Blank) (bytes_text (c ∷ bs) ++ rest)
bytes_begin c bs rest l = at bs
  where
    first : is_in class.Blank (figure (c / 16)) ≡ false
    first = false_from_ne_true (is_in class.Blank (figure (c / 16))) (λ e. name_not_blank (figure (c / 16)) (hex_named (figure (c / 16)) (pair_of c l).high) e)

    at : (bs : List ℕ) → Stops (is_in class.Blank) (bytes_text (c ∷ bs) ++ rest)
    at [] = first
    at (b ∷ bs) = first

-- the digits of a byte
one_byte : (b : ℕ) (rest : List ℕ) (ws : Words) → b < 256 → Ended rest → CutsOn mode.Bytes rest ws →
    Cuts mode.Bytes false (hexadecimal (b ∷ []) ++ rest) (record { kind = kind.Byte b; bytes = hexadecimal (b ∷ []) } ∷ ws)
one_byte b rest ws l z on =
    let pair = pair_of b l in
    subst (λ (n : ℕ). Cuts mode.Bytes false (hexadecimal (b ∷ []) ++ rest) (record { kind = kind.Byte n; bytes = hexadecimal (b ∷ []) } ∷ ws)) pair.spells
    (byte_on (figure (b / 16)) (figure (b % 16)) rest ws pair.high pair.low z on)

-- the bytes of a value, up to `]`
bytes_on : (b : ℕ) (bs rest : List ℕ) (ws : Words) → AreBytes (b ∷ bs) → CutsOn mode.Bytes (93 ∷ rest) ws →
    Cuts mode.Bytes false (bytes_text (b ∷ bs) ++ 93 ∷ rest) (byte_words (b ∷ bs) ++ ws)
bytes_on b [] rest ws h on = one_byte b (93 ∷ rest) ws h.0 refl on
bytes_on b (c ∷ bs) rest ws h on =
    one_byte b (32 ∷ (bytes_text (c ∷ bs) ++ 93 ∷ rest)) (byte_words (c ∷ bs) ++ ws) h.0 refl
    (λ f. blanks_on mode.Bytes f 32 [] (bytes_text (c ∷ bs) ++ 93 ∷ rest) (byte_words (c ∷ bs) ++ ws) (refl, tt)
    (bytes_begin c bs (93 ∷ rest) h.1.0) (bytes_on c bs rest ws h.1 on))

-- ---- values

module _ (b : ℕ) (bs rest : List ℕ) (ws : Words) (on : CutsOn mode.Plain (59 ∷ rest) ws) (fresh : Bool) where
  -- ` =` and a blank
  equals_on : (s : List ℕ) (us : Words) → Stops (is_in class.Blank) s → Cuts mode.Plain false s us → Cuts mode.Plain fresh (32 ∷ 61 ∷ 32 ∷ s) (mark_word mark.Equals ∷ us)
  equals_on s us z l =
      blanks_on mode.Plain fresh 32 [] (61 ∷ 32 ∷ s) _ (refl, tt) refl
      (mark_on mark.Equals 42 mode.Plain false (32 ∷ s) us refl refl (omega arith)
      (blanks_on mode.Plain false 32 [] s us (refl, tt) z l))

  texts_value : are_texts (b ∷ bs) ≡ true →
      Cuts mode.Plain fresh ((codes " = \"" ++ texts_from (b ∷ bs)) ++ 59 ∷ rest) (mark_word mark.Equals ∷ (text_words [] (b ∷ bs) ++ ws))
  texts_value h =
      equals_on (34 ∷ (texts_from (b ∷ bs) ++ 59 ∷ rest)) _ refl (texts_on [] (b ∷ bs) (59 ∷ rest) ws (not_begun b bs h) on false)

  less_on : (s : List ℕ) (us : Words) → (t : List ℕ) × (s ≡ 48 ∷ t) → Cuts mode.Plain false s us → Cuts mode.Plain false (60 ∷ s) (mark_word mark.Less ∷ us)
  less_on s us (t, e) l =
      subst (λ (x : List ℕ). Cuts mode.Plain false (60 ∷ x) (mark_word mark.Less ∷ us)) (sym e)
      (mark_on mark.Less 39 mode.Plain false (48 ∷ t) us refl refl (omega arith) (subst (λ (x : List ℕ). Cuts mode.Plain false x us) e l))

  cells_value : AreBytes (b ∷ bs) → (length (b ∷ bs) % 4 == 0) ≡ true →
      Cuts mode.Plain fresh ((codes " = <" ++ (cells_text (b ∷ bs) ++ codes ">")) ++ 59 ∷ rest)
      (mark_word mark.Equals ∷ mark_word mark.Less ∷ ((cell_words (b ∷ bs) ++ mark_word mark.Greater ∷ []) ++ ws))
  cells_value h fours =
      let close : CutsOn mode.Plain (62 ∷ 59 ∷ rest) (mark_word mark.Greater ∷ ws) =
      λ f. mark_on mark.Greater 40 mode.Plain f (59 ∷ rest) ws refl refl (omega arith) (on false) in
      let cells = cells_on (b ∷ bs) (59 ∷ rest) (mark_word mark.Greater ∷ ws) h (omega arith) fours close in
      let text = append_assoc (cells_text (b ∷ bs)) (62 ∷ []) (59 ∷ rest) in
      let words = append_assoc (cell_words (b ∷ bs)) (mark_word mark.Greater ∷ []) ws in
      equals_on (60 ∷ ((cells_text (b ∷ bs) ++ codes ">") ++ 59 ∷ rest)) _ refl
      (subst (λ (x : List ℕ × Words). Cuts mode.Plain false (60 ∷ x.0) (mark_word mark.Less ∷ x.1)) (λ i. (sym text i, sym words i))
      (less_on (cells_text (b ∷ bs) ++ 62 ∷ 59 ∷ rest) _ (cells_begin (b ∷ bs) (62 ∷ 59 ∷ rest) (omega arith) fours) cells))

  bytes_value : AreBytes (b ∷ bs) →
      Cuts mode.Plain fresh ((codes " = [" ++ (bytes_text (b ∷ bs) ++ codes "]")) ++ 59 ∷ rest)
      (mark_word mark.Equals ∷ mark_word mark.OpenBracket ∷ ((byte_words (b ∷ bs) ++ mark_word mark.CloseBracket ∷ []) ++ ws))
  bytes_value h =
      let close : CutsOn mode.Bytes (93 ∷ 59 ∷ rest) (mark_word mark.CloseBracket ∷ ws) =
      λ f. mark_on mark.CloseBracket 36 mode.Bytes f (59 ∷ rest) ws refl refl (omega arith) (on false) in
      let bytes = bytes_on b bs (59 ∷ rest) (mark_word mark.CloseBracket ∷ ws) h close in
      let text = append_assoc (bytes_text (b ∷ bs)) (93 ∷ []) (59 ∷ rest) in
      let words = append_assoc (byte_words (b ∷ bs)) (mark_word mark.CloseBracket ∷ []) ws in
      equals_on (91 ∷ ((bytes_text (b ∷ bs) ++ codes "]") ++ 59 ∷ rest)) _ refl
      (subst (λ (x : List ℕ × Words). Cuts mode.Plain false (91 ∷ x.0) (mark_word mark.OpenBracket ∷ x.1)) (λ i. (sym text i, sym words i))
      (mark_on mark.OpenBracket 35 mode.Plain false (bytes_text (b ∷ bs) ++ 93 ∷ 59 ∷ rest) _ refl refl (omega arith) bytes))

-- the text behind a name, and its words, where two tests have these answers: the value is texts; it is cells
abbrev text_by : (texts cells : Bool) → List ℕ → List ℕ
text_by texts cells v =
    if texts then codes " = \"" ++ texts_from v
    else (if cells then codes " = <" ++ (cells_text v ++ codes ">")
    else codes " = [" ++ (bytes_text v ++ codes "]"))

abbrev words_by : (texts cells : Bool) → List ℕ → Words
words_by texts cells v =
    mark_word mark.Equals ∷ (if texts then text_words [] v
    else (if cells then mark_word mark.Less ∷ (cell_words v ++ mark_word mark.Greater ∷ [])
    else mark_word mark.OpenBracket ∷ (byte_words v ++ mark_word mark.CloseBracket ∷ [])))

-- what stands behind a name, and the semicolon
pub value_on : (v rest : List ℕ) (ws : Words) → AreBytes v → CutsOn mode.Plain (59 ∷ rest) ws → CutsOn mode.Plain (value_text v ++ 59 ∷ rest) (value_words v ++ ws)
value_on [] rest ws h on fresh = on fresh
value_on (b ∷ bs) rest ws h on fresh = at (are_texts (b ∷ bs)) (length (b ∷ bs) % 4 == 0) refl refl
  where
    at : (x y : Bool) → are_texts (b ∷ bs) ≡ x → (length (b ∷ bs) % 4 == 0) ≡ y → Cuts mode.Plain fresh (text_by x y (b ∷ bs) ++ 59 ∷ rest) (words_by x y (b ∷ bs) ++ ws)
    at true y e f = texts_value b bs rest ws on fresh e
    at false true e f = cells_value b bs rest ws on fresh h f
    at false false e f = bytes_value b bs rest ws on fresh h

-- it ends the name
pub value_ended : (v rest : List ℕ) → Ended (value_text v ++ 59 ∷ rest)
value_ended [] rest = refl
value_ended (b ∷ bs) rest = at (are_texts (b ∷ bs)) (length (b ∷ bs) % 4 == 0)
  where
    at : (x y : Bool) → Ended (text_by x y (b ∷ bs) ++ 59 ∷ rest)
    at true y = refl
    at false true = refl
    at false false = refl
