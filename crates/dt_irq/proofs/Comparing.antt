-- Cells are compared one after another.
use Rattle.std.proofs.Common.{◌≡◌, ◌≢◌, ℕ, suc, Bool, true, false, ◌&&◌, ◌==◌, List, [], ◌∷◌, drop, length, refl, ap, arith}
use Rattle.dt_resolve_model.specs.Interrupts.{equal_under}
use Rattle.dt_irq.specs.Cells.{agree}

pub unequal_lengths : (xs ys mask : List ℕ) → length xs ≢ length ys → equal_under xs ys mask ≡ false
unequal_lengths [] [] mask ne = absurd (ne refl)
unequal_lengths [] (y ∷ ys) mask ne = refl
unequal_lengths (x ∷ xs) [] mask ne = refl
unequal_lengths (x ∷ xs) (y ∷ ys) [] ne = rw (unequal_lengths xs ys [] (λ e. ne (ap suc e))) (none (x == y))
  where
    none : (b : Bool) → b && false ≡ false
    none true = refl
    none false = refl
unequal_lengths (x ∷ xs) (y ∷ ys) (m ∷ mask) ne = rw (unequal_lengths xs ys mask (λ e. ne (ap suc e))) (none (agree x y (m ∷ mask)))
  where
    none : (b : Bool) → b && false ≡ false
    none true = refl
    none false = refl

pub first_equal : (x y : ℕ) (xs ys mask : List ℕ) → equal_under (x ∷ xs) (y ∷ ys) mask ≡ (agree x y mask && equal_under xs ys (drop 1 mask))
first_equal x y xs ys [] = refl
first_equal x y xs ys (m ∷ mask) = refl

pub nothing_equal : (xs ys mask : List ℕ) → length xs ≡ 0 → length ys ≡ 0 → equal_under xs ys mask ≡ true
nothing_equal [] [] mask none nothing = refl
nothing_equal [] (y ∷ ys) mask none nothing = absurd (omega arith)
nothing_equal (x ∷ xs) ys mask none nothing = absurd (omega arith)
