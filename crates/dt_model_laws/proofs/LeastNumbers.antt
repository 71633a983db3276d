-- There is one list of least free numbers.
use Rattle.std.proofs.Common.{◌≡◌, ℕ, zero, suc, ◌+◌, ◌≤◌, ◌<◌, Bool, true, false, List, [], ◌∷◌, length, refl, sym, ap, subst, ◌∙◌, inl, inr, true≢false, arith}
use Rattle.std.specs.Prelude.{nat_eq}
use Rattle.std.specs.List.{list_any}
use Rattle.std.proofs.lemmas.Bool.{cases_order}
use Rattle.dt_model.specs.Numbers.{IsLeastFree, AreNumbers}
use Rattle.dt_model_laws.specs.LeastNumbers.{NumbersAreThere, NumbersAreOne}
use Rattle.dt_model_laws.proofs.Fresh.{few_below}

-- ---- there is one

-- each number from 1 that is below n is taken
abbrev AreTaken : List ℕ → ℕ → Type 0
AreTaken taken n = (k : ℕ) → 1 ≤ k → k < n → list_any (nat_eq k) taken ≡ true

-- the least free number, where those below n are taken, and so many tries are left that not all of them can be
search_from : (taken : List ℕ) (tries n : ℕ) → 1 ≤ n → length taken + 2 ≤ n + tries → AreTaken taken n → (k : ℕ) × IsLeastFree taken k
search_from taken zero n low enough below = let le = few_below taken n below in absurd (omega (arith, le))
search_from taken (suc tries) n low enough below = step (search_from taken tries (n + 1) (omega arith) (omega arith)) (list_any (nat_eq n) taken) refl
  where
    step : (AreTaken taken (n + 1) → (k : ℕ) × IsLeastFree taken k) → (b : Bool) → list_any (nat_eq n) taken ≡ b → (k : ℕ) × IsLeastFree taken k
    step more false free = (n, record { low = low; free = free; least = below })
    step more true here = more (λ k one less. elim (cases_order k n) [
      | inl same ↦ subst (λ i. list_any (nat_eq i) taken ≡ true) (sym same) here
      | inr (inl before) ↦ below k one before
      | inr (inr behind) ↦ absurd (omega arith)
    ])

least_free : (taken : List ℕ) → (k : ℕ) × IsLeastFree taken k
least_free taken = search_from taken (length taken + 1) 1 (omega arith) (omega arith) (λ k one less. absurd (omega arith))

pub numbers_are_there : NumbersAreThere
numbers_are_there taken [] = ([], tt)
numbers_are_there taken (p ∷ paths) =
    let x = least_free taken in
    let w = numbers_are_there (x.0 ∷ taken) paths in
    ((p, x.0) ∷ w.0, (refl, x.1, w.1))

-- ---- and no other

pub one_least : (taken : List ℕ) (n k : ℕ) → IsLeastFree taken n → IsLeastFree taken k → n ≡ k
one_least taken n k h h' = elim (cases_order n k) [
  | inl same ↦ same
  | inr (inl less) ↦ absurd (true≢false (sym (h'.least n h.low less) ∙ h.free))
  | inr (inr more) ↦ absurd (true≢false (sym (h.least k h'.low more) ∙ h'.free))
]

pub numbers_are_one : NumbersAreOne
numbers_are_one taken [] [] [] h h' = refl
numbers_are_one taken [] [] (y ∷ others) h h' = absurd h'
numbers_are_one taken [] (x ∷ numbers) others h h' = absurd h
numbers_are_one taken (p ∷ paths) [] others h h' = absurd h
numbers_are_one taken (p ∷ paths) (x ∷ numbers) [] h h' = absurd h'
numbers_are_one taken (p ∷ paths) ((q, n) ∷ numbers) ((r, k) ∷ others) h h' =
    let same : n ≡ k = one_least taken n k h.1 h'.1 in
    let rest = numbers_are_one (k ∷ taken) paths numbers others (subst (λ i. AreNumbers (i ∷ taken) paths numbers) same h.2) h'.2 in
    ap (λ z. (z, n) ∷ numbers) (sym h.0 ∙ h'.0) ∙ ap (λ i. (r, i) ∷ numbers) same ∙ ap (λ z. (r, k) ∷ z) rest
