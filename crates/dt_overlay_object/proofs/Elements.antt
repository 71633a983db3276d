-- Elements of lists by their indices.
use Rattle.std.proofs.Common.{◌≡◌, ◌≢◌, ℕ, zero, suc, ◌<◌, List, [], ◌∷◌, get_or, length, refl, sym, ap, inl, inr, Some, arith}
use Rattle.std.specs.Prelude.{slice_get}
use Rattle.dt_model.specs.Lists.{IsIn}
use Rattle.dt_model.specs.Valid.{AreDistinct}
use Rattle.dt_model.proofs.Tests.{each_in}

pub get_in : {X : Type 0} (xs : List X) (i : ℕ) (y : X) → slice_get xs i ≡ Some y → IsIn y xs
get_in [] i y e = absurd cc
get_in (x ∷ xs) zero y e = inl cc
get_in (x ∷ xs) (suc i) y e = inr (get_in xs i y e)

pub in_get : {X : Type 0} (xs : List X) (y : X) → IsIn y xs → (i : ℕ) × (slice_get xs i ≡ Some y)
in_get [] y i = absurd i
in_get (x ∷ xs) y (inl e) = (0, ap Some (sym e))
in_get (x ∷ xs) y (inr i) = let w = in_get xs y i in (suc w.0, w.1)

-- where no two are the same, an element has one index
pub one_index : {X : Type 0} (xs : List X) (i j : ℕ) (y : X) → AreDistinct xs → slice_get xs i ≡ Some y → slice_get xs j ≡ Some y → i ≡ j
one_index [] i j y d e f = absurd cc
one_index (x ∷ xs) zero zero y d e f = refl
one_index (x ∷ xs) zero (suc j) y d e f = absurd (each_in (λ z. z ≢ x) xs y d.0 (get_in xs j y f) (let same : x ≡ y = cc in sym same))
one_index (x ∷ xs) (suc i) zero y d e f = absurd (each_in (λ z. z ≢ x) xs y d.0 (get_in xs i y e) (let same : x ≡ y = cc in sym same))
one_index (x ∷ xs) (suc i) (suc j) y d e f = ap suc (one_index xs i j y d.1 e f)

-- the element of an index, as it is read
pub at_index : {X : Type 0} (xs : List X) (i : ℕ) (x : X) → i < length xs → x ≡ get_or xs i x → slice_get xs i ≡ Some x
at_index [] i x lt at = absurd (omega (arith, lt))
at_index (y ∷ xs) zero x lt at = ap Some (sym at)
at_index (y ∷ xs) (suc i) x lt at = at_index xs i x (omega (arith, lt)) at
