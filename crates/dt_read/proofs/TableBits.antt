-- A bit that is set in a table of words is set then, and so are those that were.
use Rattle.std.proofs.Common.{◌≡◌, ℕ, ◌*◌, ◌<◌, ◌/◌, ◌%◌, ◌^◌, true, List, length, get_or, set, bit_and, bit_or, eqb}
use Rattle.std.proofs.Common.{sym, ap, subst, ◌∙◌, arith, inl, inr}
use Rattle.std.proofs.lemmas.Bool.{cases_eq}
use Rattle.std.specs.Int.{w64, bit_at}
use Rattle.std.proofs.lemmas.List.{get_or-set_same, get_or-set_other, length-set}
use Rattle.std.proofs.lemmas.Nat.Bits.{bit_at_set_same, bit_at_set_other, shr_and_one}
use Rattle.dt_read.specs.Filter.{has_bit_at, is_set}

-- the words where the bit at that place is set too
unfoldable pub with_bit_at : List ℕ → ℕ → List ℕ
with_bit_at words place = set words (place / 64) (bit_or (get_or words (place / 64) 0) (1 * 2 ^ (place % 64) % 2 ^ 64))

pub bit_by_shift : (words : List ℕ) (place : ℕ) → eqb (bit_and (get_or words (place / 64) 0 / 2 ^ (place % 64)) 1) 1 ≡ has_bit_at words place
unfolding has_bit_at
bit_by_shift words place = ap (λ n. eqb n 1) (shr_and_one (get_or words (place / 64) 0) (place % 64))

pub bit_put : (words : List ℕ) (place : ℕ) → place / 64 < length words → has_bit_at (with_bit_at words place) place ≡ true
unfolding has_bit_at with_bit_at
bit_put words place within =
    let low : place % 64 < 64 = omega arith in
    ap (λ w. eqb (bit_at w (place % 64)) 1) (get_or-set_same words (place / 64) _ 0 within)
    ∙ ap (λ n. eqb n 1) (bit_at_set_same w64 (get_or words (place / 64) 0) (place % 64) low)

pub bit_kept : (words : List ℕ) (place other : ℕ) → place / 64 < length words → has_bit_at words other ≡ true
    → has_bit_at (with_bit_at words place) other ≡ true
unfolding has_bit_at with_bit_at
bit_kept words place other within is =
    elim (cases_eq (other / 64) (place / 64)) [
      | inl same ↦ elim (cases_eq (other % 64) (place % 64)) [
        | inl here ↦ (let e : other ≡ place = omega arith in subst (λ n. has_bit_at (with_bit_at words place) n ≡ true) (sym e) (bit_put words place within))
        | inr apart ↦ (
            let low : place % 64 < 64 = omega arith in
            ap (λ k. eqb (bit_at (get_or (with_bit_at words place) k 0) (other % 64)) 1) same
            ∙ ap (λ w. eqb (bit_at w (other % 64)) 1) (get_or-set_same words (place / 64) _ 0 within)
            ∙ ap (λ n. eqb n 1) (bit_at_set_other w64 (get_or words (place / 64) 0) (place % 64) low (other % 64) apart)
            ∙ ap (λ k. eqb (bit_at (get_or words k 0) (other % 64)) 1) (sym same)
            ∙ is
            )
      ]
      | inr apart ↦ ap (λ w. eqb (bit_at w (other % 64)) 1) (get_or-set_other words (place / 64) (other / 64) _ 0 apart) ∙ is
    ]

length-with_bit : (words : List ℕ) (place : ℕ) → length (with_bit_at words place) ≡ length words
unfolding with_bit_at
length-with_bit words place = length-set words (place / 64) _

in_words : (words : List ℕ) (number : ℕ) → 0 < length words → number % (length words * 64) / 64 < length words
in_words words number some = omega arith

pub number_put : (words : List ℕ) (number : ℕ) → 0 < length words → is_set (with_bit_at words (number % (length words * 64))) number ≡ true
number_put words number some =
    ap (λ n. has_bit_at (with_bit_at words (number % (length words * 64))) (number % (n * 64))) (length-with_bit words _)
    ∙ bit_put words _ (in_words words number some)

pub number_kept : (words : List ℕ) (number other : ℕ) → 0 < length words → is_set words other ≡ true
    → is_set (with_bit_at words (number % (length words * 64))) other ≡ true
number_kept words number other some is =
    ap (λ n. has_bit_at (with_bit_at words (number % (length words * 64))) (other % (n * 64))) (length-with_bit words _)
    ∙ bit_kept words _ _ (in_words words number some) is
