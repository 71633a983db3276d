-- The least free number is there.
use Rattle.std.proofs.Common.{◌≡◌, ℕ, zero, suc, ◌+◌, ◌≤◌, ◌<◌, Bool, true, false, List, length, sym, subst, inl, inr, refl, arith}
use Rattle.std.specs.Prelude.{nat_eq, if◌then◌else◌}
use Rattle.std.specs.List.{list_any}
use Rattle.std.proofs.lemmas.Bool.{cases_order}
use Rattle.dt_model.specs.Numbers.{IsLeastFree}
use Rattle.dt_model_laws.proofs.Fresh.{few_below}
use Rattle.dt_overlay_model.specs.Walk.{least_from}
use Rattle.dt_overlay_model.specs.Joining.{LeastIsFree}

-- each number from 1 that is below n is taken
abbrev AreTaken : List ℕ → ℕ → Type 0
AreTaken taken n = (k : ℕ) → 1 ≤ k → k < n → list_any (nat_eq k) taken ≡ true

one_more : (taken : List ℕ) (n : ℕ) → AreTaken taken n → list_any (nat_eq n) taken ≡ true → AreTaken taken (n + 1)
one_more taken n below here k one less = elim (cases_order k n) [
  | inl same ↦ subst (λ i. list_any (nat_eq i) taken ≡ true) (sym same) here
  | inr (inl before) ↦ below k one before
  | inr (inr behind) ↦ absurd (omega arith)
]

-- so it is from any number on below which all are taken, with tries enough
least_is : (taken : List ℕ) (tries n : ℕ) → 1 ≤ n → length taken + 1 ≤ n + tries → AreTaken taken n → IsLeastFree taken (least_from taken tries n)
least_is taken zero n low enough below = step (list_any (nat_eq n) taken) refl
  where
    step : (b : Bool) → list_any (nat_eq n) taken ≡ b → IsLeastFree taken n
    step false free = record { low = low; free = free; least = below }
    step true here = let le = few_below taken (n + 1) (one_more taken n below here) in absurd (omega (arith, le))
least_is taken (suc tries) n low enough below = step (least_is taken tries (n + 1) (omega arith) (omega arith)) (list_any (nat_eq n) taken) refl
  where
    step : (AreTaken taken (n + 1) → IsLeastFree taken (least_from taken tries (n + 1))) → (b : Bool) → list_any (nat_eq n) taken ≡ b
        → IsLeastFree taken (if b then least_from taken tries (n + 1) else n)
    step more false free = record { low = low; free = free; least = below }
    step more true here = more (one_more taken n below here)

pub least_is_free : LeastIsFree
least_is_free taken = least_is taken (length taken) 1 (omega arith) (omega arith) (λ k one less. absurd (omega arith))
