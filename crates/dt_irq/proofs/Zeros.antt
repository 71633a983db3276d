-- A table that is filled from its front.
use Rattle.std.proofs.Common.{◌≡◌, ℕ, suc, zero, ◌+◌, List, [], ◌∷◌, ◌++◌, take, drop, length, set, replicate, refl, ap, ◌∙◌, arith}

pub filled : (ns : List ℕ) (i k x : ℕ) (rest : List ℕ) → drop i ns ≡ x ∷ rest → set (take i ns ++ replicate (suc k) 0) i x ≡ take (suc i) ns ++ replicate k 0
filled [] zero k x rest e = absurd cc
filled [] (suc i) k x rest e = absurd cc
filled (y ∷ ns) zero k x rest e = let same : x ≡ y = cc in ap (λ z. z ∷ replicate k 0) same
filled (y ∷ ns) (suc i) k x rest e = ap (λ ms. y ∷ ms) (filled ns i k x rest e)

pub take_front : (xs ys : List ℕ) (n : ℕ) → n ≡ length xs → take n (xs ++ ys) ≡ xs
take_front [] ys zero e = refl
take_front [] ys (suc n) e = absurd (omega arith)
take_front (x ∷ xs) ys zero e = absurd (omega arith)
take_front (x ∷ xs) ys (suc n) e = ap (λ zs. x ∷ zs) (take_front xs ys n (omega arith))

pub drop_front : (xs ys : List ℕ) (n : ℕ) → n ≡ length xs → drop n (xs ++ ys) ≡ ys
drop_front [] ys zero e = refl
drop_front [] ys (suc n) e = absurd (omega arith)
drop_front (x ∷ xs) ys zero e = absurd (omega arith)
drop_front (x ∷ xs) ys (suc n) e = drop_front xs ys n (omega arith)

-- one more of a front
pub front_more : (ns : List ℕ) (i x : ℕ) (rest : List ℕ) → drop i ns ≡ x ∷ rest → take (i + 1) ns ≡ take i ns ++ x ∷ []
front_more ns i x rest e = ap (λ n. take n ns) (let same : i + 1 ≡ suc i = omega arith in same) ∙ more ns i e
  where
    more : (ns : List ℕ) (i : ℕ) → drop i ns ≡ x ∷ rest → take (suc i) ns ≡ take i ns ++ x ∷ []
    more [] zero e = absurd cc
    more [] (suc i) e = absurd cc
    more (y ∷ ns) zero e = let same : y ≡ x = cc in ap (λ z. z ∷ []) same
    more (y ∷ ns) (suc i) e = ap (λ ms. y ∷ ms) (more ns i e)
