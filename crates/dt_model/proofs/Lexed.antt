-- Bytes are the tokens of one list at most.
use Rattle.std.proofs.Common.{◌≡◌, ℕ, zero, suc, ◌+◌, List, [], ◌∷◌, ◌++◌, length, take, drop, Some, None, refl, sym, ap, subst, ◌∙◌, append_assoc, arith}
use Rattle.std.specs.Int.{w32, from_be_bytes}
use Rattle.std.proofs.lemmas.List.{take_at, drop_at, length-append}
use Rattle.dt_model.specs.Format.{Token, begin_node, end_node, prop, nop, end_tree, word, word_at, IsText, IsPadded, HoldsName, Spells, SpellsAll}
use Rattle.dt_model.specs.Lexing.{padded, text_in, begin_in, property_in, token_in}
use Rattle.dt_model.proofs.Words.{word_again, word_value, padded_again, length-padded}

-- ---- the token at the front is the one that is spelled

pub text_again : (name rest : List ℕ) → IsText name → text_in (name ++ 0 ∷ rest) ≡ Some name
text_again [] rest h = refl
text_again (zero ∷ bytes) rest h = absurd (h.0 refl)
text_again (suc byte ∷ bytes) rest h = rw (text_again bytes rest h.1) refl

begin_again : (w name own more : List ℕ) → length w ≡ 4 → IsText name → IsPadded (w ++ (name ++ 0 ∷ [])) own → begin_in (own ++ more) ≡ Some (begin_node name, length own)
unfolding begin_in
begin_again w name own more four text p =
    let regroup : own ++ more ≡ w ++ (name ++ 0 ∷ (p.padding ++ more)) = ap (λ (x : List ℕ). x ++ more) p.whole ∙ simp append_assoc in
    let front : drop 4 (own ++ more) ≡ name ++ 0 ∷ (p.padding ++ more) = ap (drop 4) regroup ∙ drop_at w (name ++ 0 ∷ (p.padding ++ more)) 4 four in
    let found : text_in (drop 4 (own ++ more)) ≡ Some name = ap text_in front ∙ text_again name (p.padding ++ more) text in
    let content : length (w ++ (name ++ 0 ∷ [])) ≡ 4 + length name + 1 = omega (arith, length-append w (name ++ 0 ∷ []), length-append name (0 ∷ [])) in
    let len : padded (4 + length name + 1) ≡ length own = ap padded (sym content) ∙ sym (length-padded (w ++ (name ++ 0 ∷ [])) own p) in
    rw found (padded_again (4 + length name + 1) (own ++ more) (begin_node name) (length own) len (omega (arith, length-append own more)))

-- words are variables here: written out, they would compute to single bytes
property_again : (strings w v o name value own more : List ℕ) (offset : ℕ) → length w ≡ 4 → length v ≡ 4 → length o ≡ 4 → from_be_bytes w32 v ≡ length value → from_be_bytes w32 o ≡ offset
    → HoldsName strings offset name → IsPadded (w ++ (v ++ (o ++ value))) own → property_in strings (own ++ more) ≡ Some (prop (record { name = name; value = value }), length own)
unfolding property_in
property_again strings w v o name value own more offset w4 v4 o4 v-is o-is holds p =
    let regroup : own ++ more ≡ w ++ (v ++ (o ++ (value ++ (p.padding ++ more)))) = ap (λ (x : List ℕ). x ++ more) p.whole ∙ simp append_assoc in
    let regroup8 : own ++ more ≡ (w ++ v) ++ (o ++ (value ++ (p.padding ++ more))) = regroup ∙ simp append_assoc in
    let regroup12 : own ++ more ≡ (w ++ (v ++ o)) ++ (value ++ (p.padding ++ more)) = regroup ∙ simp append_assoc in
    let first : word_at (own ++ more) 4 ≡ Some (length value) = word_again 4 (length value) w v (o ++ (value ++ (p.padding ++ more))) (own ++ more) regroup w4 v4 v-is in
    let second : word_at (own ++ more) 8 ≡ Some offset = word_again 8 offset (w ++ v) o (value ++ (p.padding ++ more)) (own ++ more) regroup8 (omega (arith, length-append w v)) o4 o-is in
    let found : text_in (drop offset strings) ≡ Some name = ap text_in holds.stands ∙ text_again name holds.rest holds.text in
    let twelve : length (w ++ (v ++ o)) ≡ 12 = omega (arith, length-append w (v ++ o), length-append v o) in
    let here : take (length value) (drop 12 (own ++ more)) ≡ value = ap (λ (x : List ℕ). take (length value) (drop 12 x)) regroup12 ∙ ap (take (length value)) (drop_at (w ++ (v ++ o)) (value ++ (p.padding ++ more)) 12 twelve) ∙ take_at value (p.padding ++ more) (length value) refl in
    let content : length (w ++ (v ++ (o ++ value))) ≡ 12 + length value = omega (arith, length-append w (v ++ (o ++ value)), length-append v (o ++ value), length-append o value) in
    let len : padded (12 + length value) ≡ length own = ap padded (sym content) ∙ sym (length-padded (w ++ (v ++ (o ++ value))) own p) in
    rw (first, second, found, here) (padded_again (12 + length value) (own ++ more) (prop (record { name = name; value = value })) (length own) len (omega (arith, length-append own more)))

-- the tag is at the front
tag_again : (n : ℕ) (w rest own more : List ℕ) → own ≡ w ++ rest → length w ≡ 4 → from_be_bytes w32 w ≡ n → word_at (own ++ more) 0 ≡ Some n
tag_again n w rest own more whole four value = word_again 0 n [] w (rest ++ more) (own ++ more) (ap (λ (x : List ℕ). x ++ more) whole ∙ append_assoc w rest more) refl four value

pub token_again : (strings : List ℕ) (token : Token) (own more : List ℕ) → Spells strings token own → token_in strings (own ++ more) ≡ Some (token, length own)
unfolding token_in
token_again strings (begin_node name) own more s =
    let p = s.bytes in
    let tag : word_at (own ++ more) 0 ≡ Some 1 = tag_again 1 (word 1) ((name ++ 0 ∷ []) ++ p.padding) own more (p.whole ∙ append_assoc (word 1) (name ++ 0 ∷ []) p.padding) refl refl in
    rw tag (begin_again (word 1) name own more refl s.text p)
token_again strings end_node own more s =
    let tag : word_at (own ++ more) 0 ≡ Some 2 = tag_again 2 (word 2) [] own more s refl refl in
    rw tag (ap (λ (n : ℕ). Some (end_node, n)) (sym (ap length s)))
token_again strings (prop p) own more s =
    let content = s.bytes in
    let tag : word_at (own ++ more) 0 ≡ Some 3 = tag_again 3 (word 3) ((word (length p.value) ++ (word s.offset ++ p.value)) ++ content.padding) own more (content.whole ∙ append_assoc (word 3) (word (length p.value) ++ (word s.offset ++ p.value)) content.padding) refl refl in
    rw tag (property_again strings (word 3) (word (length p.value)) (word s.offset) p.name p.value own more s.offset refl refl refl (word_value (length p.value) s.length_fits) (word_value s.offset s.offset_fits) s.named content)
token_again strings nop own more s =
    let tag : word_at (own ++ more) 0 ≡ Some 4 = tag_again 4 (word 4) [] own more s refl refl in
    rw tag (ap (λ (n : ℕ). Some (nop, n)) (sym (ap length s)))
token_again strings end_tree own more s =
    let tag : word_at (own ++ more) 0 ≡ Some 9 = tag_again 9 (word 9) [] own more s refl refl in
    rw tag (ap (λ (n : ℕ). Some (end_tree, n)) (sym (ap length s)))

-- ---- tokens one after another

pub no_token : (strings : List ℕ) → token_in strings [] ≡ None
unfolding token_in
no_token strings = refl

-- the first token of bytes that begin with one, and what follows it
pub record Follows (strings bytes : List ℕ) (token : Token) (n : ℕ) (tokens : List Token) : Type 0 where
  pub later : List Token
  pub whole : tokens ≡ token ∷ later
  pub spelled : SpellsAll strings later (drop n bytes)

same_first : (t : Token) (n : ℕ) (u : Token) (m : ℕ) → ◌≡◌ {A = Token × ℕ} (t, n) (u, m) → (t ≡ u) × (n ≡ m)
same_first t n u m e = (ap (λ (p : Token × ℕ). p.0) e, ap (λ (p : Token × ℕ). p.1) e)

pub first_token : (strings bytes : List ℕ) (token : Token) (n : ℕ) → token_in strings bytes ≡ Some (token, n) → (tokens : List Token) → SpellsAll strings tokens bytes → Follows strings bytes token n tokens
first_token strings bytes token n e [] s = let none = no_token strings in let same = ap (token_in strings) s in absurd cc
first_token strings bytes token n e (other ∷ later) s =
    let again : token_in strings bytes ≡ Some (other, length s.0) = ap (token_in strings) s.2 ∙ token_again strings other s.0 s.1 s.3 in
    let same_pair : ◌≡◌ {A = Token × ℕ} (other, length s.0) (token, n) = cc in
    let same = same_first other (length s.0) token n same_pair in
    let rest : drop n bytes ≡ s.1 = ap (drop n) s.2 ∙ drop_at s.0 s.1 n same.1 in
    record {
      later = later;
      whole = ap (λ (x : Token). x ∷ later) same.0;
      spelled = subst (λ (x : List ℕ). SpellsAll strings later x) (sym rest) s.4;
    }

pub spelled_once : (strings : List ℕ) (xs ys : List Token) (bytes : List ℕ) → SpellsAll strings xs bytes → SpellsAll strings ys bytes → xs ≡ ys
spelled_once strings [] [] bytes a b = refl
spelled_once strings [] (y ∷ ys) bytes a b =
    let again : token_in strings bytes ≡ Some (y, length b.0) = ap (token_in strings) b.2 ∙ token_again strings y b.0 b.1 b.3 in
    let none : token_in strings bytes ≡ None = ap (token_in strings) a ∙ no_token strings in
    absurd cc
spelled_once strings (x ∷ xs) ys bytes a b =
    let again : token_in strings bytes ≡ Some (x, length a.0) = ap (token_in strings) a.2 ∙ token_again strings x a.0 a.1 a.3 in
    let f = first_token strings bytes x (length a.0) again ys b in
    let rest : drop (length a.0) bytes ≡ a.1 = ap (drop (length a.0)) a.2 ∙ drop_at a.0 a.1 (length a.0) refl in
    ap (λ (s : List Token). x ∷ s) (spelled_once strings xs f.later a.1 a.4 (subst (λ (s : List ℕ). SpellsAll strings f.later s) rest f.spelled)) ∙ sym f.whole
