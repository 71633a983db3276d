-- Words and padding.
use Rattle.std.proofs.Common.{◌≡◌, ℕ, ◌+◌, ◌-◌, ◌^◌, ◌<◌, ◌≤◌, List, ◌++◌, length, get_or, take, drop, Option, Some, None, refl, sym, ap, subst, ◌∙◌, arith, inl, inr}
use Rattle.std.specs.Int.{w32, from_be_bytes, to_be_bytes}
use Rattle.std.proofs.lemmas.Bool.{cases_lt, leb-true}
use Rattle.std.proofs.lemmas.Option.{cond_some}
use Rattle.std.proofs.lemmas.List.{drop-drop, take-append-drop, length-append, length-take, length-drop, get_or-drop, get_or-take, get_or_past}
use Rattle.std.proofs.Math.Seq.{take-append-add}
use Rattle.std.proofs.lemmas.Nat.{be_bytes_4}
use Rattle.dt_model.specs.Format.{Token, word, word_at, IsPadded}
use Rattle.dt_model.specs.Lexing.{◌>>=◌, padded, padded_token}

abbrev pub IsBytes : List ℕ → Type 0
IsBytes bytes = (i : ℕ) → get_or bytes i 0 < 256

pub IsBytes-drop : (n : ℕ) (bytes : List ℕ) → IsBytes bytes → IsBytes (drop n bytes)
IsBytes-drop n bytes h i = rw get_or-drop (h (n + i))

pub IsBytes-take : (n : ℕ) (bytes : List ℕ) → IsBytes bytes → IsBytes (take n bytes)
IsBytes-take n bytes h i =
    elim (cases_lt i n) [
      | inl lt ↦ rw (get_or-take n bytes i 0 lt) (h i)
      | inr le ↦ rw (get_or_past (take n bytes) i 0 (omega (arith, length-take n bytes))) (omega arith)
    ]

-- a step that gave a value
pub bind_some : {A B : Type 0} (o : Option A) (f : A → Option B) (y : B) → (o >>= f) ≡ Some y → (x : A) × (o ≡ Some x) × (f x ≡ Some y)
bind_some None f y e = absurd cc
bind_some (Some x) f y e = (x, refl, e)

-- a number that was read stands there as a word
pub number_takes : (at : ℕ) (bytes : List ℕ) (n : ℕ) → IsBytes bytes → word_at bytes at ≡ Some n → (drop at bytes ≡ word n ++ drop (at + 4) bytes) × (n < 2 ^ 32) × (at + 4 ≤ length bytes)
number_takes at bytes n fits e =
    let g = cond_some _ (from_be_bytes w32 (take 4 (drop at bytes))) n e in
    let long : at + 4 ≤ length bytes = leb-true _ _ g.0 in
    let four : length (take 4 (drop at bytes)) ≡ 4 = omega (arith, length-take 4 (drop at bytes), length-drop at bytes) in
    let bytes4 : IsBytes (take 4 (drop at bytes)) = IsBytes-take 4 (drop at bytes) (IsBytes-drop at bytes fits) in
    let same : to_be_bytes w32 n ≡ take 4 (drop at bytes) = be_bytes_4 (take 4 (drop at bytes)) n four bytes4 (sym g.1) in
    let below : from_be_bytes w32 (take 4 (drop at bytes)) < 2 ^ 32 = omega (arith, bytes4 0, bytes4 1, bytes4 2, bytes4 3) in
    let rest : drop 4 (drop at bytes) ≡ drop (at + 4) bytes = drop-drop 4 at bytes in
    (sym (take-append-drop 4 (drop at bytes)) ∙ ap (λ (x : List ℕ). x ++ drop 4 (drop at bytes)) (sym same) ∙ ap (λ (x : List ℕ). word n ++ x) rest, subst (λ (m : ℕ). m < 2 ^ 32) g.1 below, long)

pub whole_takes : (len : ℕ) (bytes : List ℕ) (token : Token) (p : Token × ℕ) → padded_token len bytes token ≡ Some p → (padded len ≤ length bytes) × ((token, padded len) ≡ p)
whole_takes len bytes token p e =
    let g = cond_some _ (token, padded len) p e in
    (leb-true _ _ g.0, g.1)

pub IsPadded-front : (content more bytes : List ℕ) (n : ℕ) → bytes ≡ content ++ more → padded (length content) ≡ n → n ≤ length bytes → IsPadded content (take n bytes)
IsPadded-front content more bytes n whole n-is le =
    let k : ℕ = n - length content in
    let split : n ≡ length content + k = omega arith in
    let total = ap length whole ∙ length-append content more in
    record {
      padding = take k more;
      whole = ap (take n) whole ∙ ap (λ (m : ℕ). take m (content ++ more)) split ∙ take-append-add content more k;
      short = omega (arith, length-take k more);
      aligned = omega (arith, length-take n bytes);
    }
