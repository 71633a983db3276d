-- The numbers that are left as they are given, one after another.
use Rattle.std.proofs.Common.{◌≡◌, ℕ, ◌+◌, Bool, true, false, ◌||◌, List, [], ◌∷◌, ◌++◌, Option, Some, None, refl, sym, ap, ◌∙◌, subst, inl, inr, arith, append_assoc}
use Rattle.std.specs.Prelude.{nat_eq}
use Rattle.std.specs.List.{list_any, AllByRecursion}
use Rattle.std.specs.Option.{option_to_list}
use Rattle.std.specs.HashSet.{contains}
use Rattle.std.proofs.lemmas.Bool.{or_right, ne_eqb, eq-eqb, cases_eq}
use Rattle.std.proofs.lemmas.List.{append-nil}
use Rattle.dt_model.specs.Numbers.{IsLeastFree}
use Rattle.dt_model.specs.Numbering.{Asked, IsNumberFor, AreNumbersFor, IsNumbering, written_numbers}
use Rattle.dt_phandle.specs.Least.{NumberSet, IsSetOf, AreLeft, IsTaken, AreGiven}

-- ---- the next number

-- it is written, and so it isn't free
pub passed_over : (taken : List ℕ) (old new : NumberSet) (n : ℕ) → AreLeft taken old n → contains nat_eq old n ≡ true
    → ((q : ℕ) → nat_eq n q ≡ false → contains nat_eq new q ≡ contains nat_eq old q) → AreLeft taken new (n + 1)
passed_over taken old new n l has others = record {
  low = omega arith;
  below = λ k low high. elim (cases_eq k n) [
    | inl e ↦ ap (λ (m : ℕ). list_any (nat_eq m) taken) e ∙ sym (l.above n (omega arith)) ∙ has
    | inr d ↦ l.below k low (omega arith)
  ];
  above = λ k le. others k (ne_eqb n k (λ e. omega arith)) ∙ l.above k (omega arith);
}

-- it is the least that is free
pub next_is_least : (taken : List ℕ) (written : NumberSet) (n : ℕ) → AreLeft taken written n → contains nat_eq written n ≡ false → IsLeastFree taken n
next_is_least taken written n l not = record { low = l.low; free = sym (l.above n (omega arith)) ∙ not; least = λ k low high. l.below k low high }

pub next_is_given : (taken : List ℕ) (old new : NumberSet) (n : ℕ) → AreLeft taken old n → new.keys ≡ old.keys → AreLeft (n ∷ taken) new (n + 1)
next_is_given taken old new n l same = record {
  low = omega arith;
  below = λ k low high. elim (cases_eq k n) [
    | inl e ↦ ap (λ (b : Bool). b || list_any (nat_eq k) taken) (eq-eqb k n e)
    | inr d ↦ or_right (nat_eq k n) (list_any (nat_eq k) taken) (l.below k low (omega arith))
  ];
  above = λ k le. ap (λ (ks : List ℕ). list_any (nat_eq k) ks) same ∙ l.above k (omega arith)
      ∙ ap (λ (b : Bool). b || list_any (nat_eq k) taken) (sym (ne_eqb k n (λ e. omega arith)));
}

-- a number that is taken already is taken again
pub taken_again : (taken : List ℕ) (written : NumberSet) (n m : ℕ) → AreLeft taken written n → list_any (nat_eq m) taken ≡ true → AreLeft (m ∷ taken) written n
taken_again taken written n m l is = record {
  low = l.low;
  below = λ k low high. same k ∙ l.below k low high;
  above = λ k le. l.above k le ∙ sym (same k);
}
  where
    same : (k : ℕ) → nat_eq k m || list_any (nat_eq k) taken ≡ list_any (nat_eq k) taken
    same k =
        elim (cases_eq k m) [
          | inl e ↦ ap (λ (b : Bool). b || list_any (nat_eq k) taken) (eq-eqb k m e) ∙ sym is ∙ ap (λ (q : ℕ). list_any (nat_eq q) taken) (sym e)
          | inr d ↦ ap (λ (b : Bool). b || list_any (nat_eq k) taken) (ne_eqb k m d)
        ]

-- ---- numbers one after another

still_taken : (taken front : List ℕ) (number : Option ℕ) → IsTaken taken number → IsTaken (front ++ taken) number
still_taken taken [] number is = is
still_taken taken (m ∷ front) number is = λ n e. or_right (nat_eq n m) (list_any (nat_eq n) (front ++ taken)) (still_taken taken front number is n e)

still_noted : (taken front : List ℕ) (xs : List Asked) → AllByRecursion (λ (x : Asked). IsTaken taken x.written) xs
    → AllByRecursion (λ (x : Asked). IsTaken (front ++ taken) x.written) xs
still_noted taken front [] h = tt
still_noted taken front (x ∷ xs) h = (still_taken taken front x.written h.0, still_noted taken front xs h.1)

pub one_given : (all : List Asked) (x : Asked) (rest : List Asked) (numbers : List (Option ℕ)) (number : Option ℕ) (old new : NumberSet) (next after : ℕ)
    → AreGiven all (x ∷ rest) numbers old next
    → ((taken : List ℕ) → AreLeft taken old next → IsNumberFor taken x.written x.keyed number)
    → ((taken : List ℕ) → AreLeft taken old next → IsTaken taken x.written → AreLeft (option_to_list number ++ taken) new after)
    → AreGiven all rest (numbers ++ number ∷ []) new after
one_given all x rest numbers number old new next after g is left = record {
  taken = option_to_list number ++ g.taken;
  left = left g.taken g.left g.noted.0;
  noted = still_noted g.taken (option_to_list number) rest g.noted.1;
  so_far = λ more h. subst (IsNumbering all) (sym (append_assoc numbers (number ∷ []) more)) (g.so_far (number ∷ more) (is g.taken g.left, h));
}

-- the numbers that are written are taken
noted_from : (taken : List ℕ) (xs : List Asked) → ((k : ℕ) → list_any (nat_eq k) (written_numbers xs) ≡ true → list_any (nat_eq k) taken ≡ true)
    → AllByRecursion (λ (x : Asked). IsTaken taken x.written) xs
noted_from taken [] h = tt
noted_from taken (x ∷ xs) h = (
  (λ n e. h n (ap (λ (o : Option ℕ). list_any (nat_eq n) (option_to_list o ++ written_numbers xs)) e ∙ ap (λ (b : Bool). b || list_any (nat_eq n) (written_numbers xs)) (eq-eqb n n refl))),
  noted_from taken xs (λ k is. h k (behind x.written k is)),
)
  where
    behind : (o : Option ℕ) (k : ℕ) → list_any (nat_eq k) (written_numbers xs) ≡ true → list_any (nat_eq k) (option_to_list o ++ written_numbers xs) ≡ true
    behind None k is = is
    behind (Some m) k is = or_right (nat_eq k m) (list_any (nat_eq k) (written_numbers xs)) is

pub none_given : (all : List Asked) (written : NumberSet) (next : ℕ) → AreLeft (written_numbers all) written next → AreGiven all all [] written next
none_given all written next l = record { taken = written_numbers all; left = l; noted = noted_from (written_numbers all) all (λ k is. is); so_far = λ more h. h }

pub all_given : (all rest : List Asked) (numbers : List (Option ℕ)) (written : NumberSet) (next : ℕ) → AreGiven all rest numbers written next → rest ≡ [] → IsNumbering all numbers
all_given all rest numbers written next g none =
    subst (IsNumbering all) (append-nil numbers) (g.so_far [] (subst (λ (xs : List Asked). AreNumbersFor g.taken xs []) (sym none) tt))

-- where none was given
pub first_is_left : (numbers : List ℕ) (written : NumberSet) → IsSetOf numbers written → AreLeft numbers written 1
first_is_left numbers written are = record { low = omega arith; below = λ k low high. absurd (omega arith); above = λ k le. are k }
