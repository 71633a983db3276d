-- Numbers of keyed nodes, by tests at the paths at which nodes stand.
use Rattle.std.proofs.Common.{◌≡◌, ℕ, ◌≤◌, Bool, true, ◌&&◌, List, sym, ap, ◌∙◌}
use Rattle.std.specs.Prelude.{nat_le, nat_eq}
use Rattle.std.specs.List.{list_all}
use Rattle.dt_model.specs.Path.{Path, path_eq}
use Rattle.dt_model.specs.Lists.{IsIn}
use Rattle.dt_model.proofs.Tests.{and_left, and_right, and_both, all_at, path_eq_true}
use Rattle.dt_model_laws.proofs.CheckedWords.{implies, implied, same_numbers}
use Rattle.dt_model_laws.proofs.CheckedNames.{at_most}

-- the numbers of the keyed ones among these paths are in range, and no two are the same
abbrev in_range : (Path → Bool) → (Path → ℕ) → Path → Bool
in_range keyed number p = implies (keyed p) (nat_le 1 (number p) && nat_le (number p) 0xfffffffe)

abbrev is_own : (Path → Bool) → (Path → ℕ) → Path → Path → Bool
is_own keyed number p q = implies (keyed p && (keyed q && nat_eq (number p) (number q))) (path_eq p q)

abbrev pub are_numbers : List Path → (Path → Bool) → (Path → ℕ) → Bool
are_numbers qs keyed number = list_all (in_range keyed number) qs && list_all (λ p. list_all (is_own keyed number p) qs) qs

module _ (qs : List Path) (keyed : Path → Bool) (number : Path → ℕ) (within : (p : Path) → keyed p ≡ true → IsIn p qs) (h : are_numbers qs keyed number ≡ true) where
  range : (p : Path) → keyed p ≡ true → (nat_le 1 (number p) && nat_le (number p) 0xfffffffe) ≡ true
  range p k =
      implied (keyed p) (nat_le 1 (number p) && nat_le (number p) 0xfffffffe)
      (all_at (in_range keyed number) qs p (and_left (list_all (in_range keyed number) qs) (list_all (λ p. list_all (is_own keyed number p) qs) qs) h) (within p k)) k

  pub low_number : (p : Path) → keyed p ≡ true → 1 ≤ number p
  low_number p k = at_most 1 (number p) (and_left (nat_le 1 (number p)) (nat_le (number p) 0xfffffffe) (range p k))

  pub high_number : (p : Path) → keyed p ≡ true → number p ≤ 0xfffffffe
  high_number p k = at_most (number p) 0xfffffffe (and_right (nat_le 1 (number p)) (nat_le (number p) 0xfffffffe) (range p k))

  pub own_number : (p q : Path) → keyed p ≡ true → keyed q ≡ true → number p ≡ number q → p ≡ q
  own_number p q k l same =
      let row = all_at (λ p. list_all (is_own keyed number p) qs) qs p (and_right (list_all (in_range keyed number) qs) (list_all (λ p. list_all (is_own keyed number p) qs) qs) h) (within p k) in
      let equal : nat_eq (number p) (number q) ≡ true = ap (nat_eq (number p)) (sym same) ∙ same_numbers.itself (number p) in
      path_eq_true p q
      (implied (keyed p && (keyed q && nat_eq (number p) (number q))) (path_eq p q) (all_at (is_own keyed number p) qs q row (within q l))
      (and_both (keyed p) (keyed q && nat_eq (number p) (number q)) k (and_both (keyed q) (nat_eq (number p) (number q)) l equal)))
