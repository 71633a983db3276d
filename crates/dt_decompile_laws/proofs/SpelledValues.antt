-- The tokens of a value are spelled by the grammar as its bytes.
use Rattle.std.proofs.Common.{◌≡◌, ℕ, zero, suc, ◌-◌, ◌<◌, ◌^◌, ◌%◌, Bool, true, false, not, ◌&&◌, List, [], ◌∷◌, ◌++◌, map, length, length-append, take, get_or, codes, refl, sym, ap, subst, ◌∙◌, inl, true≢false, append_assoc, arith}
use Rattle.std.specs.Prelude.{◌==◌, nat_le, if◌then◌else◌}
use Rattle.std.specs.Int.{w32, to_be_bytes, from_be_bytes}
use Rattle.std.proofs.lemmas.Bool.Decides.{nat_tests}
use Rattle.std.proofs.lemmas.List.{append-nil}
use Rattle.std.proofs.lemmas.Nat.{be_bytes_4}
use Rattle.std.proofs.Math.Nat.{mod-eq_of_lt}
use Rattle.dt_model.specs.Source.{Part, one}
use Rattle.dt_lex.specs.declared.token.Mark.TheVariants as mark
use Rattle.dt_lex.specs.declared.token.TokenKind.TheVariants as kind
use Rattle.dt_lex.specs.Texts.{plain, unescaped, inner, text_bytes}
use Rattle.dt_expr.specs.Expression.{number}
use Rattle.dt_expr.specs.Fits.{element}
use Rattle.dt_grammar.specs.Words.{Word, Words}
use Rattle.dt_grammar.specs.WordBytes.{AreBytes}
use Rattle.dt_grammar.specs.Grammar.{no_labels, integer, SpellsNumber, SpellsCells, no_cells, cell_number, SpellsBytes, no_bytes, one_byte, no_bits, SpellsItem, cells, string, bytes as byte_string, SpellsComponent, SpellsValue, last, more, SpellsAssigned, empty, assigned}
use Rattle.dt_model.proofs.Flat.{map_append}
use Rattle.dt_model.proofs.Tests.{and_right}
use Rattle.dt_model.specs.Printed.{ends_texts, are_texts, quoted}
use Rattle.dt_decompile_laws.specs.Words.{mark_word, text_words, cell_word, cell_words, byte_words, value_words}

-- ---- components

-- an item without labels
component : (ws : Words) (parts : List Part) → SpellsItem ws parts → SpellsComponent ws parts
component ws parts s = record {
  before = [];
  item = ws;
  behind = [];
  labels_before = [];
  labels_behind = [];
  together = sym (append-nil ws);
  spelled_before = no_labels;
  spelled = s;
  spelled_behind = no_labels;
}

-- a token of a number
pub spelled_number : (w : Word) (n : ℕ) → w.kind ≡ kind.Integer n → SpellsNumber (w ∷ []) n
spelled_number w n e = record { expression = number n; spelled = integer w n e; few = omega arith; evaluated = refl }

-- ---- texts

-- bytes as they stand between quotes
abbrev all_quoted : List ℕ → List ℕ
all_quoted [] = []
all_quoted (b ∷ bytes) = quoted b ++ all_quoted bytes

quoted_last : (bytes : List ℕ) (b : ℕ) → all_quoted (bytes ++ b ∷ []) ≡ all_quoted bytes ++ quoted b
quoted_last [] b = append-nil (quoted b)
quoted_last (c ∷ bytes) b = ap (λ (z : List ℕ). quoted c ++ z) (quoted_last bytes b) ∙ sym (append_assoc (quoted c) (all_quoted bytes) (quoted b))

-- a byte is read back
byte_back : (b : ℕ) (rest : List ℕ) → unescaped plain (quoted b ++ rest) ≡ b ∷ unescaped plain rest
byte_back b rest = quote (b == 34) refl
  where
    itself : (test : Bool) → (b == 92) ≡ test → unescaped plain ((if test then codes "\\\\" else b ∷ []) ++ rest) ≡ b ∷ unescaped plain rest
    itself true e = let is : b ≡ 92 = grind (arith, nat_tests, e) in ap (λ (c : ℕ). c ∷ unescaped plain rest) (sym is)
    itself false e = rw e refl

    quote : (test : Bool) → (b == 34) ≡ test → unescaped plain ((if test then codes "\\\"" else (if b == 92 then codes "\\\\" else b ∷ [])) ++ rest) ≡ b ∷ unescaped plain rest
    quote true e = let is : b ≡ 34 = grind (arith, nat_tests, e) in ap (λ (c : ℕ). c ∷ unescaped plain rest) (sym is)
    quote false e = itself (b == 92) refl

bytes_back : (bytes : List ℕ) → unescaped plain (all_quoted bytes) ≡ bytes
bytes_back [] = refl
bytes_back (b ∷ bytes) = byte_back b (all_quoted bytes) ∙ ap (λ (z : List ℕ). b ∷ z) (bytes_back bytes)

take_front : (u v : List ℕ) → take (length u) (u ++ v) ≡ u
take_front [] v = refl
take_front (b ∷ u) v = ap (λ (x : List ℕ). b ∷ x) (take_front u v)

inner_of : (u : List ℕ) → inner (codes "\"" ++ (u ++ codes "\"")) ≡ u
inner_of u =
    let count : length (codes "\"" ++ (u ++ codes "\"")) - 1 - 1 ≡ length u = omega (arith, length-append u (codes "\"")) in
    ap (λ (n : ℕ). take n (u ++ codes "\"")) count ∙ take_front u (codes "\"")

text_back : (bytes : List ℕ) → text_bytes (codes "\"" ++ (all_quoted bytes ++ codes "\"")) ≡ bytes
text_back bytes = ap (unescaped plain) (inner_of (all_quoted bytes)) ∙ bytes_back bytes

-- a text that is read whole
whole_text : (bytes : List ℕ) → SpellsComponent (record { kind = kind.Text; bytes = codes "\"" ++ (all_quoted bytes ++ codes "\"") } ∷ []) (map one (bytes ++ 0 ∷ []))
whole_text bytes =
    let w : Word = record { kind = kind.Text; bytes = codes "\"" ++ (all_quoted bytes ++ codes "\"") } in
    subst (λ (z : List ℕ). SpellsComponent (w ∷ []) (map one (z ++ 0 ∷ []))) (text_back bytes) (component (w ∷ []) _ (string w refl))

behind_printable : (b : ℕ) (rest : Bool) → (nat_le 0x20 b && nat_le b 0x7e && rest) ≡ true → rest ≡ true
behind_printable b rest h = and_right (nat_le 0x20 b && nat_le b 0x7e) rest h

-- texts, of whose first these bytes were read
texts_spelled : (begins : Bool) (read bytes : List ℕ) (b : ℕ) → ends_texts begins (b ∷ bytes) ≡ true → SpellsValue (text_words (all_quoted read) (b ∷ bytes)) (map one (read ++ b ∷ bytes))
texts_spelled begins read [] zero h = last _ _ (whole_text read)
texts_spelled begins read (c ∷ bytes) zero h =
    let rest : SpellsValue (text_words [] (c ∷ bytes)) (map one (c ∷ bytes)) = texts_spelled true [] bytes c (and_right (not begins) (ends_texts true (c ∷ bytes)) h) in
    let both : map one (read ++ 0 ∷ []) ++ map one (c ∷ bytes) ≡ map one (read ++ 0 ∷ c ∷ bytes) =
    sym (map_append one (read ++ 0 ∷ []) (c ∷ bytes)) ∙ ap (map one) (append_assoc read (0 ∷ []) (c ∷ bytes)) in
    subst (SpellsValue (text_words (all_quoted read) (zero ∷ c ∷ bytes))) both (more _ _ (mark_word mark.Comma) _ _ (whole_text read) refl rest)
texts_spelled begins read [] (suc b) h = absurd (true≢false (sym (behind_printable (suc b) false h)))
texts_spelled begins read (c ∷ bytes) (suc b) h =
    let rest = texts_spelled false (read ++ suc b ∷ []) bytes c (behind_printable (suc b) (ends_texts false (c ∷ bytes)) h) in
    subst (λ (z : List ℕ). SpellsValue (text_words z (c ∷ bytes)) (map one (read ++ suc b ∷ c ∷ bytes))) (quoted_last read (suc b))
    (subst (λ (z : List ℕ). SpellsValue (text_words (all_quoted (read ++ suc b ∷ [])) (c ∷ bytes)) (map one z)) (append_assoc read (suc b ∷ []) (c ∷ bytes)) rest)

-- ---- cells

four_small : (a b c d i : ℕ) → a < 256 → b < 256 → c < 256 → d < 256 → get_or (a ∷ b ∷ c ∷ d ∷ []) i 0 < 256
four_small a b c d zero ha hb hc hd = ha
four_small a b c d (suc zero) ha hb hc hd = hb
four_small a b c d (suc (suc zero)) ha hb hc hd = hc
four_small a b c d (suc (suc (suc zero))) ha hb hc hd = hd
four_small a b c d (suc (suc (suc (suc i)))) ha hb hc hd = omega arith

-- four bytes, as a number and back
pub four_back : (a b c d : ℕ) → AreBytes (a ∷ b ∷ c ∷ d ∷ []) → to_be_bytes w32 (from_be_bytes w32 (a ∷ b ∷ c ∷ d ∷ [])) ≡ a ∷ b ∷ c ∷ d ∷ []
four_back a b c d h = be_bytes_4 (a ∷ b ∷ c ∷ d ∷ []) (from_be_bytes w32 (a ∷ b ∷ c ∷ d ∷ [])) refl (λ i. four_small a b c d i h.0 h.1.0 h.1.1.0 h.1.1.1.0) refl

four_fit : (a b c d : ℕ) → AreBytes (a ∷ b ∷ c ∷ d ∷ []) → from_be_bytes w32 (a ∷ b ∷ c ∷ d ∷ []) < 2 ^ 32
four_fit a b c d h =
    let ha : a < 256 = h.0 in
    let hb : b < 256 = h.1.0 in
    let hc : c < 256 = h.1.1.0 in
    let hd : d < 256 = h.1.1.1.0 in
    omega (arith, ha, hb, hc, hd)

cells_spelled : (bytes : List ℕ) → AreBytes bytes → length bytes % 4 ≡ 0 → SpellsCells 32 w32 (cell_words bytes) (map one bytes)
cells_spelled [] h e = no_cells
cells_spelled (a ∷ []) h e = absurd (let z : 1 ≡ 0 = e in omega arith)
cells_spelled (a ∷ b ∷ []) h e = absurd (let z : 2 ≡ 0 = e in omega arith)
cells_spelled (a ∷ b ∷ c ∷ []) h e = absurd (let z : 3 ≡ 0 = e in omega arith)
cells_spelled (a ∷ b ∷ c ∷ d ∷ bytes) h e =
    let four : AreBytes (a ∷ b ∷ c ∷ d ∷ []) = (h.0, (h.1.0, (h.1.1.0, (h.1.1.1.0, tt)))) in
    let n = from_be_bytes w32 (a ∷ b ∷ c ∷ d ∷ []) in
    let low = four_fit a b c d four in
    let same : to_be_bytes w32 (element 32 n) ≡ a ∷ b ∷ c ∷ d ∷ [] = ap (to_be_bytes w32) (mod-eq_of_lt low) ∙ four_back a b c d four in
    let rest = cells_spelled bytes h.1.1.1.1 (omega (arith, e)) in
    let w = cell_word (a ∷ b ∷ c ∷ d ∷ []) in
    subst (λ (z : List ℕ). SpellsCells 32 w32 (w ∷ cell_words bytes) (map one z ++ map one bytes)) same
    (cell_number (w ∷ []) (cell_words bytes) n (map one bytes) (spelled_number w n refl) (inl low) rest)

-- ---- bytes

bytes_spelled : (numbers : List ℕ) → SpellsBytes (byte_words numbers) (map one numbers)
bytes_spelled [] = no_bytes
bytes_spelled (b ∷ numbers) = one_byte _ _ b _ refl (bytes_spelled numbers)

-- ---- values

pub value_spelled : (numbers : List ℕ) → AreBytes numbers → SpellsAssigned (value_words numbers) (map one numbers)
value_spelled [] h = empty
value_spelled (b ∷ numbers) h = assigned (mark_word mark.Equals) _ _ refl (by (are_texts (b ∷ numbers)) refl)
  where
    listed : (test : Bool) → (length (b ∷ numbers) % 4 == 0) ≡ test
        → SpellsValue (if test then mark_word mark.Less ∷ (cell_words (b ∷ numbers) ++ mark_word mark.Greater ∷ []) else mark_word mark.OpenBracket ∷ (byte_words (b ∷ numbers) ++ mark_word mark.CloseBracket ∷ [])) (map one (b ∷ numbers))
    listed true e =
        let whole : length (b ∷ numbers) % 4 ≡ 0 = grind (arith, nat_tests, e) in
        last _ _ (component _ _ (cells [] (cell_words (b ∷ numbers)) (mark_word mark.Less) (mark_word mark.Greater) 32 w32 _ no_bits refl refl (cells_spelled (b ∷ numbers) h whole)))
    listed false e =
        last _ _ (component _ _ (byte_string (byte_words (b ∷ numbers)) (mark_word mark.OpenBracket) (mark_word mark.CloseBracket) _ refl refl (bytes_spelled (b ∷ numbers))))

    by : (test : Bool) → are_texts (b ∷ numbers) ≡ test
        → SpellsValue (if test then text_words [] (b ∷ numbers) else (if length (b ∷ numbers) % 4 == 0 then mark_word mark.Less ∷ (cell_words (b ∷ numbers) ++ mark_word mark.Greater ∷ []) else mark_word mark.OpenBracket ∷ (byte_words (b ∷ numbers) ++ mark_word mark.CloseBracket ∷ []))) (map one (b ∷ numbers))
    by true e = texts_spelled true [] numbers b e
    by false e = listed (length (b ∷ numbers) % 4 == 0) refl
