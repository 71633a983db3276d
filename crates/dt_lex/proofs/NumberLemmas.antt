-- A number that is read digit by digit, and stops where it leaves 64 bits.
use Rattle.std.proofs.Common.{◌≡◌, ℕ, zero, suc, nat_eq, bit_and, get_or, inl, inr, ◌+◌, ◌*◌, ◌<◌, ◌≤◌, ◌^◌, Bool, true, false, List, [], ◌∷◌, Option, Some, None, refl, sym, ◌∙◌, ap, arith, le-ltb}
use Rattle.std.specs.Prelude.{◌&&◌, ◌||◌, nat_lt, if◌then◌else◌}
use Rattle.std.proofs.lemmas.Bool.{ltb-true, ltb-false, lt-ltb, eqb-true, cases_eq}
use Rattle.std.proofs.lemmas.Bool.Decides.{nat_tests}
use Rattle.std.proofs.Math.Nat.{mul-le-mul_left}
use Rattle.dt_lex.specs.declared.byte.Class.{Class}
use Rattle.dt_lex.specs.declared.byte.Class.TheVariants as class
use Rattle.dt_lex.specs.Bytes.{is_in}
use Rattle.dt_lex.specs.Vocabulary.{IsDigits}
use Rattle.dt_lex.specs.Numbers.{digit_of, digits, number_behind, all_below, integer_of}

abbrev pub value_at : ℕ → ℕ → List ℕ → Option ℕ
value_at base n [] = Some n
value_at base n (d ∷ ds) =
    if nat_lt d base then (if nat_lt (n * base + d) (2 ^ 64) then value_at base (n * base + d) ds else None) else None

abbrev whole : ℕ → ℕ → List ℕ → Option ℕ
whole base n ds = if all_below base ds && nat_lt (number_behind base n ds) (2 ^ 64) then Some (number_behind base n ds) else None

grows : (base n : ℕ) (ds : List ℕ) → 0 < base → n ≤ number_behind base n ds
grows base n [] p = omega arith
grows base n (d ∷ ds) p = let h = grows base (n * base + d) ds p in let one : 1 ≤ base = omega arith in omega (arith, mul-le-mul_left n one, h)

and_false : (b : Bool) → (b && false) ≡ false
and_false true = refl
and_false false = refl

value_whole : (base n : ℕ) (ds : List ℕ) → 0 < base → n < 2 ^ 64 → value_at base n ds ≡ whole base n ds
value_whole base n [] p h = rw (lt-ltb n (2 ^ 64) h) refl
value_whole base n (d ∷ ds) p h = at (nat_lt d base) (nat_lt (n * base + d) (2 ^ 64)) refl refl (value_whole base (n * base + d) ds p)
  where
    at : (b c : Bool) → nat_lt d base ≡ b → nat_lt (n * base + d) (2 ^ 64) ≡ c → (n * base + d < 2 ^ 64 → value_at base (n * base + d) ds ≡ whole base (n * base + d) ds) → value_at base n (d ∷ ds) ≡ whole base n (d ∷ ds)
    at false c e f ih = rw e refl
    at true false e f ih = (let large : 2 ^ 64 ≤ number_behind base (n * base + d) ds = omega (arith, ltb-false _ _ f, grows base (n * base + d) ds p) in rw (e, f, le-ltb _ _ large, and_false (all_below base ds)) refl)
    at true true e f ih = rw (e, f) (ih (ltb-true _ _ f))

pub value_is_integer : (base : ℕ) (ds : List ℕ) → 0 < base → value_at base 0 ds ≡ integer_of base ds
value_is_integer base ds p = value_whole base 0 ds p (omega arith)

module _ (p : ℕ → Bool) (s : List ℕ) (b : ℕ) (t : List ℕ) (e : s ≡ b ∷ t) where
  pub digits_end : p b ≡ false → digits p s ≡ []
  digits_end h = ap (digits p) e ∙ rw h refl

  pub digits_more : p b ≡ true → digits p s ≡ digit_of b ∷ digits p t
  digits_more h = ap (digits p) e ∙ rw h refl

pub value_bad : (base n d : ℕ) (ds : List ℕ) → base ≤ d → value_at base n (d ∷ ds) ≡ None
value_bad base n d ds h = rw (le-ltb _ _ h) refl

pub value_large : (base n d : ℕ) (ds : List ℕ) → d < base → nat_lt (n * base + d) (2 ^ 64) ≡ false → value_at base n (d ∷ ds) ≡ None
value_large base n d ds h f = rw (lt-ltb d base h, f) refl

first_or : (a b c : Bool) → a ≡ true → ((a || b) || c) ≡ true
first_or a b c e = rw e refl

none_if : (b : Bool) (n : ℕ) → None ≡ (if b then Some n else None) → b ≡ false
none_if true n e = cc
none_if false n e = refl

pub scaled_none : (v b d e : ℕ) → d ≡ e → None ≡ (if nat_lt (v * b + d) (2 ^ 64) then Some (v * b + d) else None) → nat_lt (v * b + e) (2 ^ 64) ≡ false
scaled_none v b d e h n = ap (λ (x : ℕ). nat_lt (v * b + x) (2 ^ 64)) (sym h) ∙ none_if _ _ n

some_if : (b : Bool) (m n : ℕ) → Some m ≡ (if b then Some n else None) → (b ≡ true) × (m ≡ n)
some_if true m n e = (refl, cc)
some_if false m n e = cc

pub scaled_some : (v b d e m : ℕ) → d ≡ e → Some m ≡ (if nat_lt (v * b + d) (2 ^ 64) then Some (v * b + d) else None) → (nat_lt (v * b + e) (2 ^ 64) ≡ true) × (m ≡ v * b + e)
scaled_some v b d e m h n =
    let is = some_if _ _ _ n in
    (ap (λ (x : ℕ). nat_lt (v * b + x) (2 ^ 64)) (sym h) ∙ is.0, is.1 ∙ ap (λ (x : ℕ). v * b + x) h)

pub value_next : (base n d m : ℕ) (ds : List ℕ) → d < base → (nat_lt (n * base + d) (2 ^ 64) ≡ true) × (m ≡ n * base + d) → value_at base n (d ∷ ds) ≡ value_at base m ds
value_next base n d m ds h is = rw (lt-ltb d base h, is.0) (ap (λ (x : ℕ). value_at base x ds) (sym is.1))

-- ---- the values of digits

both_true : (a b : Bool) → (a && b) ≡ true → (a ≡ true) × (b ≡ true)
both_true true b h = (refl, h)
both_true false b h = cc

-- the two functions agree below n
unfoldable pub same_below : (ℕ → ℕ) → (ℕ → ℕ) → ℕ → Bool
same_below f g zero = true
same_below f g (suc n) = nat_eq (f n) (g n) && same_below f g n

same_at : (f g : ℕ → ℕ) (n : ℕ) → same_below f g n ≡ true → (b : ℕ) → b < n → f b ≡ g b
unfolding same_below
same_at f g zero h b lt = absurd (omega arith)
same_at f g (suc n) h b lt =
    let both = both_true (nat_eq (f n) (g n)) (same_below f g n) h in
    elim (cases_eq b n) [ inl same ↦ rw same (eqb-true (f n) (g n) both.0) | inr other ↦ same_at f g n both.1 b (omega arith) ]

abbrev pub kept_digit : List ℕ → ℕ → ℕ
kept_digit table b = bit_and (get_or table b 0) 31

abbrev pub digit_or_none : ℕ → ℕ
digit_or_none b = if is_in class.Hex b then digit_of b else 31

-- a table of 256 bytes has the values of all digits
pub from_digits : (table : List ℕ) (b : ℕ) → b < 256 → same_below (kept_digit table) digit_or_none 256 ≡ true → kept_digit table b ≡ digit_or_none b
from_digits table b lt h = same_at (kept_digit table) digit_or_none 256 h b lt

pub digit_is : (b : ℕ) → is_in class.Hex b ≡ true → digit_or_none b ≡ digit_of b
digit_is b h = rw h refl

-- a byte whose value is below 17 is a digit
pub digit_below : (b base d : ℕ) → base ≤ 16 → d ≡ digit_or_none b → d < base → (is_in class.Hex b ≡ true) × (d ≡ digit_of b)
digit_below b base d most e lt = by (is_in class.Hex b) refl e
  where
    by : (t : Bool) → is_in class.Hex b ≡ t → d ≡ (if t then digit_of b else 31) → (is_in class.Hex b ≡ true) × (d ≡ digit_of b)
    by true h f = (h, f)
    by false h f = absurd (omega (arith, f, lt))

-- a digit of a class is hexadecimal
pub is_hexadecimal : (c : Class) → IsDigits c → (b : ℕ) → is_in c b ≡ true → is_in class.Hex b ≡ true
is_hexadecimal class.Digit d b h = grind (arith, nat_tests)
is_hexadecimal class.Hex d b h = h
is_hexadecimal _ d b h = absurd d
