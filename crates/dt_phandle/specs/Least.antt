-- Which numbers are left to give, and which were given.
use Rattle.std.specs.Prelude.{◌≡◌, ℕ, ◌<◌, ◌≤◌, true, List, ◌++◌, Option, Some, nat_eq}
use Rattle.std.specs.List.{list_any, AllByRecursion}
use Rattle.std.specs.HashSet.{HashSet, contains}
use Rattle.dt_model.specs.Numbering.{Asked, AreNumbersFor, IsNumbering}
use Rattle.dt_names.specs.declared.seed.Seed.{Seed}

abbrev pub NumberSet : Type 0
NumberSet = HashSet ℕ Seed

-- the set has these numbers
abbrev pub IsSetOf : List ℕ → NumberSet → Type 0
IsSetOf numbers set = (k : ℕ) → contains nat_eq set k ≡ list_any (nat_eq k) numbers

-- of the numbers from 1 on, those are taken that are below the next one, and those that are written
pub record AreLeft (taken : List ℕ) (written : NumberSet) (next : ℕ) : Type 0 where
  pub low : 1 ≤ next
  pub below : (k : ℕ) → 1 ≤ k → k < next → list_any (nat_eq k) taken ≡ true
  pub above : (k : ℕ) → next ≤ k → contains nat_eq written k ≡ list_any (nat_eq k) taken

-- the number, where there is one, is taken
abbrev pub IsTaken : List ℕ → Option ℕ → Type 0
IsTaken taken number = (n : ℕ) → number ≡ Some n → list_any (nat_eq n) taken ≡ true

-- Some numbers were given to the nodes of a list, and these nodes are left: a numbering of those makes one of all.
pub record AreGiven (all rest : List Asked) (numbers : List (Option ℕ)) (written : NumberSet) (next : ℕ) : Type 0 where
  pub taken : List ℕ
  pub left : AreLeft taken written next
  pub noted : AllByRecursion (λ (x : Asked). IsTaken taken x.written) rest
  pub so_far : (more : List (Option ℕ)) → AreNumbersFor taken rest more → IsNumbering all (numbers ++ more)
