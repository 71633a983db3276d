-- The least free numbers: each path's own, small, and not taken before.
use Rattle.std.proofs.Common.{◌≡◌, ℕ, suc, zero, ◌+◌, ◌≤◌, ◌<◌, Bool, true, false, ◌||◌, List, [], ◌∷◌, length, refl, sym, ap, ◌∙◌, inl, inr, subst, Some, None, true≢false, arith}
use Rattle.std.specs.Prelude.{nat_eq}
use Rattle.std.specs.List.{list_any}
use Rattle.std.proofs.lemmas.Bool.Decides.{Decides-eqb}
use Rattle.std.proofs.lemmas.Map.Steps.{le-length_from_below}
use Rattle.dt_model.specs.Path.{Path, path_eq}
use Rattle.dt_model.specs.Lists.{IsIn}
use Rattle.dt_model.specs.Numbers.{IsLeastFree, AreNumbers, number_in}
use Rattle.dt_model.proofs.Tests.{path_eq_true, or_right}

-- where each number from 1 up to n is taken, as many are taken
pub few_below : (taken : List ℕ) (n : ℕ) → ((k : ℕ) → 1 ≤ k → k < n → list_any (nat_eq k) taken ≡ true) → n ≤ length taken + 1
few_below taken n h = let le = le-length_from_below (0 ∷ taken) n below in omega (arith, le)
  where
    below : (q : ℕ) → q < n → list_any (nat_eq q) (0 ∷ taken) ≡ true
    below zero lt = refl
    below (suc k) lt = or_right (nat_eq (suc k) 0) (list_any (nat_eq (suc k)) taken) (h (suc k) (omega arith) lt)

-- a least free number is small
pub small : (taken : List ℕ) (n : ℕ) → IsLeastFree taken n → n ≤ length taken + 1
small taken n h = few_below taken n h.least

pub number_is_free : (taken : List ℕ) (paths : List Path) (numbers : List (Path × ℕ)) (p : Path) (n : ℕ) → AreNumbers taken paths numbers → number_in numbers p ≡ Some n → list_any (nat_eq n) taken ≡ false
number_is_free taken [] [] p n h e = absurd (let z : None ≡ Some n = e in cc)
number_is_free taken [] (x ∷ numbers) p n h e = absurd h
number_is_free taken (r ∷ paths) [] p n h e = absurd h
number_is_free taken (r ∷ paths) ((q, k) ∷ numbers) p n h e = step (λ z. number_is_free (k ∷ taken) paths numbers p n h.2 z) (path_eq q p) refl
  where
    or_false : (a b : Bool) → a || b ≡ false → b ≡ false
    or_false true b z = absurd (true≢false z)
    or_false false b z = z

    step : (number_in numbers p ≡ Some n → list_any (nat_eq n) (k ∷ taken) ≡ false) → (b : Bool) → path_eq q p ≡ b → list_any (nat_eq n) taken ≡ false
    step more true same = let z : Some k ≡ Some n = rw same at e in let is : k ≡ n = cc in subst (λ y. list_any (nat_eq y) taken ≡ false) is h.1.free
    step more false other = or_false (nat_eq n k) (list_any (nat_eq n) taken) (more (rw other at e))

-- a number given later is not this one
pub later_differs : (taken : List ℕ) (paths : List Path) (numbers : List (Path × ℕ)) (k n : ℕ) (p : Path) → AreNumbers (k ∷ taken) paths numbers → number_in numbers p ≡ Some n → n ≡ k → ⊥
later_differs taken paths numbers k n p h e same =
    true≢false (sym (ap (λ b. b || list_any (nat_eq n) taken) ((Decides-eqb n k).1 same)) ∙ number_is_free (k ∷ taken) paths numbers p n h e)

pub own_number : (taken : List ℕ) (paths : List Path) (numbers : List (Path × ℕ)) (p p' : Path) (n : ℕ) → AreNumbers taken paths numbers → number_in numbers p ≡ Some n → number_in numbers p' ≡ Some n → p ≡ p'
own_number taken [] [] p p' n h e e' = absurd (let z : None ≡ Some n = e in cc)
own_number taken [] (x ∷ numbers) p p' n h e e' = absurd h
own_number taken (r ∷ paths) [] p p' n h e e' = absurd h
own_number taken (r ∷ paths) ((q, k) ∷ numbers) p p' n h e e' = step (λ z z'. own_number (k ∷ taken) paths numbers p p' n h.2 z z') (path_eq q p) refl (path_eq q p') refl
  where
    step : (number_in numbers p ≡ Some n → number_in numbers p' ≡ Some n → p ≡ p') → (b : Bool) → path_eq q p ≡ b → (c : Bool) → path_eq q p' ≡ c → p ≡ p'
    step more true s true s' = sym (path_eq_true q p s) ∙ path_eq_true q p' s'
    step more true s false s' = let z : Some k ≡ Some n = rw s at e in let is : n ≡ k = cc in absurd (later_differs taken paths numbers k n p' h.2 (rw s' at e') is)
    step more false s true s' = let z : Some k ≡ Some n = rw s' at e' in let is : n ≡ k = cc in absurd (later_differs taken paths numbers k n p h.2 (rw s at e) is)
    step more false s false s' = more (rw s at e) (rw s' at e')

pub number_low : (taken : List ℕ) (paths : List Path) (numbers : List (Path × ℕ)) (p : Path) (n : ℕ) → AreNumbers taken paths numbers → number_in numbers p ≡ Some n → (1 ≤ n) × (n ≤ length taken + length paths) × IsIn p paths
number_low taken [] [] p n h e = absurd (let z : None ≡ Some n = e in cc)
number_low taken [] (x ∷ numbers) p n h e = absurd h
number_low taken (r ∷ paths) [] p n h e = absurd h
number_low taken (r ∷ paths) ((q, k) ∷ numbers) p n h e = step (λ z. number_low (k ∷ taken) paths numbers p n h.2 z) (path_eq q p) refl
  where
    step : (number_in numbers p ≡ Some n → (1 ≤ n) × (n ≤ length (k ∷ taken) + length paths) × IsIn p paths) → (b : Bool) → path_eq q p ≡ b → (1 ≤ n) × (n ≤ length taken + length (r ∷ paths)) × IsIn p (r ∷ paths)
    step more true same =
        let z : Some k ≡ Some n = rw same at e in
        let is : k ≡ n = cc in
        let le = small taken k h.1 in
        let low = h.1.low in
        (omega arith, omega (arith, le), inl (sym (path_eq_true q p same) ∙ sym h.0))
    step more false other = let w = more (rw other at e) in let le = w.1 in (w.0, omega (arith, le), inr w.2)

-- ---- no path twice
