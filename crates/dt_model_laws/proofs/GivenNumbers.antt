-- The numbers that nodes get one after another: each its own, and small where none is written.
use Rattle.std.proofs.Common.{◌≡◌, ◌≢◌, ℕ, zero, suc, ◌+◌, ◌≤◌, Bool, true, false, List, [], ◌∷◌, ◌++◌, length, length-append, refl, sym, ap, subst, ◌∙◌, ◌⊎◌, inl, inr, Option, Some, None, option_to_list, true≢false, arith}
use Rattle.std.specs.Prelude.{nat_eq}
use Rattle.std.specs.List.{list_any}
use Rattle.std.proofs.lemmas.Bool.Decides.{Decides-eqb}
use Rattle.dt_model.specs.Lists.{IsIn}
use Rattle.dt_model.specs.Valid.{AreDistinct}
use Rattle.dt_model.specs.Numbers.{IsLeastFree}
use Rattle.dt_model.specs.Numbering.{Asked, IsNumberFor, AreNumbersFor, written_numbers, IsNumbering}
use Rattle.dt_model.specs.Instance.{number_at}
use Rattle.dt_model.proofs.Tests.{or_right, any_here, each_from, in_left, in_right, in_append}
use Rattle.dt_model.proofs.Distinct.{apart, distinct_right}
use Rattle.dt_model_laws.proofs.Fresh.{small}
use Rattle.dt_model_laws.proofs.Places.{HasAt, numbers_given}

-- a number is the written one, or the least that is free
number_cases : (taken : List ℕ) (written : Option ℕ) (keyed : Bool) (number : Option ℕ) (y : ℕ) → IsNumberFor taken written keyed number → number ≡ Some y → (written ≡ Some y) ⊎ IsLeastFree taken y
number_cases taken (Some n) keyed number y h e = inl (sym h ∙ e)
number_cases taken None false number y h e = absurd (let z : None ≡ Some y = sym h ∙ e in cc)
number_cases taken None true None y h e = absurd h
number_cases taken None true (Some n) y h e = let same : n ≡ y = cc in inr (subst (IsLeastFree taken) same h)

pub option_in : (o : Option ℕ) (y : ℕ) → IsIn y (option_to_list o) → o ≡ Some y
option_in None y i = absurd i
option_in (Some x) y (inl same) = ap Some (sym same)
option_in (Some x) y (inr i) = absurd i

in_option : (o : Option ℕ) (y : ℕ) → o ≡ Some y → IsIn y (option_to_list o)
in_option o y e = subst (λ z. IsIn y (option_to_list z)) (sym e) (inl refl)

still_taken : (o : Option ℕ) (taken : List ℕ) (y : ℕ) → list_any (nat_eq y) taken ≡ true → list_any (nat_eq y) (option_to_list o ++ taken) ≡ true
still_taken None taken y h = h
still_taken (Some n) taken y h = or_right (nat_eq y n) (list_any (nat_eq y) taken) h

not_free : (taken : List ℕ) (y : ℕ) → IsLeastFree taken y → list_any (nat_eq y) taken ≡ true → ⊥
not_free taken y h k = true≢false (sym k ∙ h.free)

-- a number that is given although it is taken is a written one
given_written : (taken : List ℕ) (xs : List Asked) (numbers : List (Option ℕ)) (y : ℕ) → AreNumbersFor taken xs numbers → IsIn y (numbers_given numbers)
    → list_any (nat_eq y) taken ≡ true → IsIn y (written_numbers xs)
given_written taken [] [] y h i k = absurd i
given_written taken [] (o ∷ numbers) y h i k = absurd h
given_written taken (x ∷ xs) [] y h i k = absurd h
given_written taken (x ∷ xs) (o ∷ numbers) y h i k =
    elim (in_append y (option_to_list o) (numbers_given numbers) i) [
      | inl here ↦
          elim (number_cases taken x.written x.keyed o y h.0 (option_in o y here)) [
            | inl w ↦ in_left y (option_to_list x.written) (written_numbers xs) (in_option x.written y w)
            | inr least ↦ absurd (not_free taken y least k)
          ]
      | inr later ↦
          in_right y (option_to_list x.written) (written_numbers xs)
          (given_written (option_to_list o ++ taken) xs numbers y h.1 later (still_taken o taken y k))
    ]

-- the written numbers are taken
abbrev AreTaken : List ℕ → List Asked → Type 0
AreTaken taken xs = (y : ℕ) → IsIn y (written_numbers xs) → list_any (nat_eq y) taken ≡ true

-- a number isn't given later
not_later : (taken : List ℕ) (x : Asked) (xs : List Asked) (numbers : List (Option ℕ)) (n : ℕ) → (x.written ≡ Some n) ⊎ IsLeastFree taken n
    → AreNumbersFor (n ∷ taken) xs numbers → AreDistinct (written_numbers (x ∷ xs)) → AreTaken taken (x ∷ xs) → IsIn n (numbers_given numbers) → ⊥
not_later taken x xs numbers n is h d all i =
    let there = given_written (n ∷ taken) xs numbers n h i (any_here (nat_eq n) (n ∷ taken) n (inl refl) ((Decides-eqb n n).1 refl)) in
    elim is [
      | inl w ↦ apart (option_to_list x.written) (written_numbers xs) n d (in_option x.written n w) there
      | inr least ↦ not_free taken n least (all n (in_right n (option_to_list x.written) (written_numbers xs) there))
    ]

given_distinct : (taken : List ℕ) (xs : List Asked) (numbers : List (Option ℕ)) → AreNumbersFor taken xs numbers → AreDistinct (written_numbers xs) → AreTaken taken xs
    → AreDistinct (numbers_given numbers)
given_distinct taken [] [] h d all = tt
given_distinct taken [] (o ∷ numbers) h d all = absurd h
given_distinct taken (x ∷ xs) [] h d all = absurd h
given_distinct taken (x ∷ xs) (None ∷ numbers) h d all =
    given_distinct taken xs numbers h.1 (distinct_right (option_to_list x.written) (written_numbers xs) d)
    (λ y i. all y (in_right y (option_to_list x.written) (written_numbers xs) i))
given_distinct taken (x ∷ xs) (Some n ∷ numbers) h d all = (
  each_from (λ y. y ≢ n) (numbers_given numbers)
      (λ y i same. not_later taken x xs numbers n (number_cases taken x.written x.keyed (Some n) n h.0 refl) h.1 d all (subst (λ z. IsIn z (numbers_given numbers)) same i)),
  given_distinct (n ∷ taken) xs numbers h.1 (distinct_right (option_to_list x.written) (written_numbers xs) d)
      (λ y i. or_right (nat_eq y n) (list_any (nat_eq y) taken) (all y (in_right y (option_to_list x.written) (written_numbers xs) i))),
)

-- no number is given twice
pub numbers_distinct : (xs : List Asked) (numbers : List (Option ℕ)) → IsNumbering xs numbers → AreDistinct (written_numbers xs) → AreDistinct (numbers_given numbers)
numbers_distinct xs numbers h d = given_distinct (written_numbers xs) xs numbers h d (λ y i. any_here (nat_eq y) (written_numbers xs) y i ((Decides-eqb y y).1 refl))

-- ---- small numbers

length-option : (o : Option ℕ) → length (option_to_list o) ≤ 1
length-option None = omega arith
length-option (Some n) = omega arith

-- a number that isn't written is no greater than the count of those that are taken and of the nodes
pub number_small : (taken : List ℕ) (xs : List Asked) (numbers : List (Option ℕ)) (y : ℕ) → AreNumbersFor taken xs numbers → IsIn y (numbers_given numbers)
    → IsIn y (written_numbers xs) ⊎ ((1 ≤ y) × (y ≤ length taken + length xs))
number_small taken [] [] y h i = absurd i
number_small taken [] (o ∷ numbers) y h i = absurd h
number_small taken (x ∷ xs) [] y h i = absurd h
number_small taken (x ∷ xs) (o ∷ numbers) y h i =
    elim (in_append y (option_to_list o) (numbers_given numbers) i) [
      | inl here ↦
          elim (number_cases taken x.written x.keyed o y h.0 (option_in o y here)) [
            | inl w ↦ inl (in_left y (option_to_list x.written) (written_numbers xs) (in_option x.written y w))
            | inr least ↦ let l = small taken y least in inr (least.low, omega (arith, l))
          ]
      | inr later ↦
          elim (number_small (option_to_list o ++ taken) xs numbers y h.1 later) [
            | inl w ↦ inl (in_right y (option_to_list x.written) (written_numbers xs) w)
            | inr r ↦
                let low = r.0 in
                let high = r.1 in
                let a = length-append (option_to_list o) taken in
                let b = length-option o in
                inr (low, omega (arith, high, a, b))
          ]
    ]

pub length-written : (xs : List Asked) → length (written_numbers xs) ≤ length xs
length-written [] = omega arith
length-written (x ∷ xs) =
    let a = length-written xs in
    let b = length-option x.written in
    let c = length-append (option_to_list x.written) (written_numbers xs) in
    omega (arith, a, b, c)

-- ---- places

-- each node's number is one for what it asks for
pub number_for : (taken : List ℕ) (xs : List Asked) (numbers : List (Option ℕ)) (k : ℕ) (x : Asked) → AreNumbersFor taken xs numbers → HasAt k x xs
    → (before : List ℕ) × IsNumberFor before x.written x.keyed (number_at numbers k)
number_for taken [] numbers k x h i = absurd i
number_for taken (y ∷ ys) [] k x h i = absurd h
number_for taken (y ∷ ys) (o ∷ numbers) zero x h i = (taken, subst (λ z. IsNumberFor taken z.written z.keyed o) (sym i) h.0)
number_for taken (y ∷ ys) (o ∷ numbers) (suc k) x h i = number_for (option_to_list o ++ taken) ys numbers k x h.1 i

pub length-numbers : (taken : List ℕ) (xs : List Asked) (numbers : List (Option ℕ)) → AreNumbersFor taken xs numbers → length numbers ≡ length xs
length-numbers taken [] [] h = refl
length-numbers taken [] (o ∷ numbers) h = absurd h
length-numbers taken (x ∷ xs) [] h = absurd h
length-numbers taken (x ∷ xs) (o ∷ numbers) h = let l = length-numbers (option_to_list o ++ taken) xs numbers h.1 in omega (arith, l)
