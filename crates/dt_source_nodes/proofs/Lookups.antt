-- Look-ups in lists that were written to.
use Rattle.std.proofs.Common.{◌≡◌, ℕ, zero, suc, ◌<◌, List, [], ◌∷◌, length, Some, set, slice_get, refl, ap, ◌⊎◌, inl, inr, arith}

pub slice_get-set_same : {A : Type 0} (xs : List A) (i : ℕ) (y : A) → i < length xs → slice_get (set xs i y) i ≡ Some y
slice_get-set_same [] i y h = absurd (omega arith)
slice_get-set_same (x ∷ xs) zero y h = refl
slice_get-set_same (x ∷ xs) (suc i) y h = slice_get-set_same xs i y (omega arith)

-- what is found was written, or stood there
pub slice_get-set : {A : Type 0} (xs : List A) (i j : ℕ) (y z : A) → slice_get (set xs i y) j ≡ Some z → ((i ≡ j) × (y ≡ z)) ⊎ (slice_get xs j ≡ Some z)
slice_get-set [] i j y z h = inr h
slice_get-set (x ∷ xs) zero zero y z h = inl (refl, cc)
slice_get-set (x ∷ xs) zero (suc j) y z h = inr h
slice_get-set (x ∷ xs) (suc i) zero y z h = inr h
slice_get-set (x ∷ xs) (suc i) (suc j) y z h = again (slice_get-set xs i j y z h)
  where
    again : ((i ≡ j) × (y ≡ z)) ⊎ (slice_get xs j ≡ Some z) → ((suc i ≡ suc j) × (y ≡ z)) ⊎ (slice_get xs j ≡ Some z)
    again (inl e) = inl (ap suc e.0, e.1)
    again (inr e) = inr e

-- where something stood, it stands or was written over
pub slice_get-set_there : {A : Type 0} (xs : List A) (i j : ℕ) (y z : A) → slice_get xs j ≡ Some z →
    (slice_get (set xs i y) j ≡ Some y) ⊎ (slice_get (set xs i y) j ≡ Some z)
slice_get-set_there [] i j y z h = inr h
slice_get-set_there (x ∷ xs) zero zero y z h = inl refl
slice_get-set_there (x ∷ xs) zero (suc j) y z h = inr h
slice_get-set_there (x ∷ xs) (suc i) zero y z h = inr h
slice_get-set_there (x ∷ xs) (suc i) (suc j) y z h = slice_get-set_there xs i j y z h
