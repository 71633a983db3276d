-- The names that a fragment brings are names: `fragment@N` with any number, `__overlay__`, `target` and `target-path`.
use Rattle.std.proofs.Common.{◌≡◌, ℕ, zero, suc, ◌+◌, ◌<◌, ◌≤◌, ◌/◌, ◌%◌, ◌||◌, cond, Bool, true, false, List, [], ◌∷◌, ◌++◌, length, length-append, codes, refl, ap, ◌∙◌, arith}
use Rattle.std.specs.List.{AllByRecursion, count_by}
use Rattle.std.specs.Bool.{IsTrue, ◌==◌}
use Rattle.std.specs.Fmt.{digits, digits_onto, digit_glyph, decimal}
use Rattle.std.proofs.lemmas.Bool.Decides.{nat_tests}
use Rattle.std.proofs.lemmas.List.Elements.{All-from_recursion}
use Rattle.std.proofs.lemmas.List.Sums.{sum_by-append, sum_by-cons}
use Rattle.dt_model.specs.Names.{IsNodeName, IsPropertyName, is_name_byte}
use Rattle.dt_model.specs.Path.{is_bookkeeping_name}
use Rattle.dt_model.specs.OverlaySource.{fragment_name}
use Rattle.dt_model.proofs.Cases.{all_map, all_pass}
use Rattle.dt_model.proofs.Tests.{each_append}

-- ---- digits

abbrev IsDigitByte : ℕ → Type 0
IsDigitByte b = (48 ≤ b) × (b ≤ 57)

a_glyph : (n : ℕ) → IsDigitByte (digit_glyph false (n % 10))
a_glyph n = let small : n % 10 < 10 = omega arith in (grind (arith, nat_tests), grind (arith, nat_tests))

onto_digits : (k n : ℕ) (acc : List ℕ) → AllByRecursion IsDigitByte acc → AllByRecursion IsDigitByte (digits_onto k 10 false n acc)
onto_digits zero n acc h = h
onto_digits (suc k) n acc h =
    either (n / 10 == 0) (digit_glyph false (n % 10) ∷ acc) (digits_onto k 10 false (n / 10) (digit_glyph false (n % 10) ∷ acc))
    (a_glyph n, h) (onto_digits k (n / 10) (digit_glyph false (n % 10) ∷ acc) (a_glyph n, h))
  where
    either : (b : Bool) (xs ys : List ℕ) → AllByRecursion IsDigitByte xs → AllByRecursion IsDigitByte ys → AllByRecursion IsDigitByte (cond b xs ys)
    either true xs ys p q = p
    either false xs ys p q = q

onto_length : (k n : ℕ) (acc : List ℕ) → length (digits_onto k 10 false n acc) ≤ k + length acc
onto_length zero n acc = omega arith
onto_length (suc k) n acc =
    let more = onto_length k (n / 10) (digit_glyph false (n % 10) ∷ acc) in
    either (n / 10 == 0) (digit_glyph false (n % 10) ∷ acc) (digits_onto k 10 false (n / 10) (digit_glyph false (n % 10) ∷ acc)) (omega arith) (omega (arith, more))
  where
    either : (b : Bool) (xs ys : List ℕ) → length xs ≤ suc k + length acc → length ys ≤ suc k + length acc → length (cond b xs ys) ≤ suc k + length acc
    either true xs ys p q = p
    either false xs ys p q = q

decimal_digits : (n : ℕ) → AllByRecursion IsDigitByte (decimal n)
unfolding digits
decimal_digits n = onto_digits 64 n [] tt

decimal_length : (n : ℕ) → length (decimal n) ≤ 64
unfolding digits
decimal_length n = onto_length 64 n []

-- ---- the name of a fragment

digit_allowed : (b : ℕ) → IsDigitByte b → (is_name_byte b || (b == 64)) ≡ true
digit_allowed b h = let low : 48 ≤ b = h.0 in let high : b ≤ 57 = h.1 in grind (arith, nat_tests)

abbrev is_at : ℕ → Bool
is_at b = b == 64

digit_no_at : (b : ℕ) → IsDigitByte b → is_at b ≡ false
digit_no_at b h = let low : 48 ≤ b = h.0 in let high : b ≤ 57 = h.1 in grind (arith, nat_tests)

no_at : (ds : List ℕ) → AllByRecursion IsDigitByte ds → count_by is_at ds ≡ 0
no_at [] h = refl
no_at (b ∷ ds) h =
    sum_by-cons (λ x. cond (is_at x) 1 0) b ds ∙ ap (λ t. cond t 1 0 + count_by is_at ds) (digit_no_at b h.0) ∙ (let rest : count_by is_at ds ≡ 0 = no_at ds h.1 in omega arith)

front : AllByRecursion (λ b. IsTrue (is_name_byte b || (b == 64))) (codes "fragment@")
front = all_pass (λ b. is_name_byte b || (b == 64)) (codes "fragment@") refl

pub fragment_named : (n : ℕ) → IsNodeName (fragment_name n)
fragment_named n =
    let ds = decimal n in
    let short : length ds ≤ 64 = decimal_length n in
    let len : length (codes "fragment@" ++ ds) ≡ 9 + length ds = length-append (codes "fragment@") ds in
    let count : count_by is_at (codes "fragment@" ++ ds) ≡ count_by is_at (codes "fragment@") + count_by is_at ds = sum_by-append (λ x. cond (is_at x) 1 0) (codes "fragment@") ds in
    let none : count_by is_at ds ≡ 0 = no_at ds (decimal_digits n) in
    let first : count_by is_at (codes "fragment@") ≡ 1 = refl in
    record {
      not_empty = omega arith;
      short = omega arith;
      allowed = All-from_recursion (λ b. IsTrue (is_name_byte b || (b == 64))) (fragment_name n)
          (each_append (λ b. IsTrue (is_name_byte b || (b == 64))) (codes "fragment@") ds front (all_map IsDigitByte (λ b. IsTrue (is_name_byte b || (b == 64))) digit_allowed ds (decimal_digits n)));
      one_at = omega arith;
      not_first = λ e. cc;
    }

pub fragment_plain : (n : ℕ) → is_bookkeeping_name (fragment_name n) ≡ false
fragment_plain n = refl

-- ---- the other names

pub overlay_named : IsNodeName (codes "__overlay__")
overlay_named = record {
  not_empty = omega arith;
  short = omega arith;
  allowed = All-from_recursion (λ b. IsTrue (is_name_byte b || (b == 64))) (codes "__overlay__") (all_pass (λ b. is_name_byte b || (b == 64)) (codes "__overlay__") refl);
  one_at = omega arith;
  not_first = λ e. cc;
}

pub target_named : IsPropertyName (codes "target")
target_named = record {
  not_empty = omega arith;
  short = omega arith;
  allowed = All-from_recursion (λ b. IsTrue (is_name_byte b)) (codes "target") (all_pass is_name_byte (codes "target") refl);
}

pub target_path_named : IsPropertyName (codes "target-path")
target_path_named = record {
  not_empty = omega arith;
  short = omega arith;
  allowed = All-from_recursion (λ b. IsTrue (is_name_byte b)) (codes "target-path") (all_pass is_name_byte (codes "target-path") refl);
}
