-- The elements of lists by their places, counted from 0.
use Rattle.std.proofs.Common.{◌≡◌, ℕ, zero, suc, ◌<◌, Bool, true, false, List, [], ◌∷◌, map, length, refl, sym, ap, subst, ◌∙◌, inl, inr, Option, Some, None, option_to_list, true≢false, arith}
use Rattle.std.specs.Prelude.{if◌then◌else◌}
use Rattle.std.specs.List.{flat_map}
use Rattle.dt_model.specs.Path.{Path, path_eq}
use Rattle.dt_model.specs.Lists.{IsIn}
use Rattle.dt_model.specs.Valid.{AreDistinct}
use Rattle.dt_model.specs.NamedOf.{path_among}
use Rattle.dt_model.specs.Instance.{number_at}
use Rattle.dt_model.proofs.Tests.{path_eq_refl, path_eq_true, in_left, in_right}
use Rattle.dt_model.proofs.Distinct.{not_twice, apart, distinct_right}

-- the list has the element at this place
abbrev pub HasAt : {X : Type 0} → ℕ → X → List X → Type 0
HasAt k x [] = ⊥
HasAt zero x (y ∷ ys) = x ≡ y
HasAt (suc k) x (y ∷ ys) = HasAt k x ys

pub at_in : {X : Type 0} (k : ℕ) (x : X) (xs : List X) → HasAt k x xs → IsIn x xs
at_in k x [] h = absurd h
at_in zero x (y ∷ ys) h = inl h
at_in (suc k) x (y ∷ ys) h = inr (at_in k x ys h)

pub in_at : {X : Type 0} (x : X) (xs : List X) → IsIn x xs → (k : ℕ) × HasAt k x xs
in_at x [] i = absurd i
in_at x (y ∷ ys) (inl same) = (0, same)
in_at x (y ∷ ys) (inr i) = let w = in_at x ys i in (suc w.0, w.1)

pub at_map : {X Y : Type 0} (f : X → Y) (k : ℕ) (x : X) (xs : List X) → HasAt k x xs → HasAt k (f x) (map f xs)
at_map f k x [] h = absurd h
at_map f zero x (y ∷ ys) h = ap f h
at_map f (suc k) x (y ∷ ys) h = at_map f k x ys h

pub same_at : {X : Type 0} (k : ℕ) (x y : X) (xs : List X) → HasAt k x xs → HasAt k y xs → x ≡ y
same_at k x y [] h h' = absurd h
same_at zero x y (z ∷ xs) h h' = h ∙ sym h'
same_at (suc k) x y (z ∷ xs) h h' = same_at k x y xs h h'

-- an element of which there is no other has one place
pub one_at : {X : Type 0} (j k : ℕ) (x : X) (xs : List X) → AreDistinct xs → HasAt j x xs → HasAt k x xs → j ≡ k
one_at j k x [] d h h' = absurd h
one_at zero zero x (y ∷ xs) d h h' = refl
one_at zero (suc k) x (y ∷ xs) d h h' = absurd (not_twice y xs d (subst (λ z. IsIn z xs) h (at_in k x xs h')))
one_at (suc j) zero x (y ∷ xs) d h h' = absurd (not_twice y xs d (subst (λ z. IsIn z xs) h' (at_in j x xs h)))
one_at (suc j) (suc k) x (y ∷ xs) d h h' = let e = one_at j k x xs d.1 h h' in ap (λ n. suc n) e

-- ---- paths

pub path_at : (k : ℕ) (p : Path) (ps : List Path) → HasAt k p ps → path_among ps k ≡ p
path_at k p [] h = absurd h
path_at zero p (q ∷ ps) h = sym h
path_at (suc k) p (q ∷ ps) h = path_at k p ps h

pub at_path : (k : ℕ) (ps : List Path) → k < length ps → HasAt k (path_among ps k) ps
at_path k [] l = absurd (omega arith)
at_path zero (q ∷ ps) l = refl
at_path (suc k) (q ∷ ps) l = at_path k ps (omega arith)

-- the place of a path among paths
abbrev pub place : List Path → Path → ℕ
place [] p = 0
place (q ∷ ps) p = if path_eq p q then 0 else suc (place ps p)

pub place_at : (p : Path) (ps : List Path) → IsIn p ps → HasAt (place ps p) p ps
place_at p [] i = absurd i
place_at p (q ∷ ps) i = step (place_at p ps) (path_eq p q) refl
  where
    step : (IsIn p ps → HasAt (place ps p) p ps) → (b : Bool) → path_eq p q ≡ b → HasAt (if path_eq p q then 0 else suc (place ps p)) p (q ∷ ps)
    step more true e = rw e (path_eq_true p q e)
    step more false e = rw e (elim i [
      | inl same ↦ absurd (true≢false (sym (path_eq_refl p) ∙ ap (path_eq p) same ∙ e))
      | inr k ↦ more k
    ])

pub place_is : (k : ℕ) (p : Path) (ps : List Path) → AreDistinct ps → HasAt k p ps → place ps p ≡ k
place_is k p ps d h = one_at (place ps p) k p ps d (place_at p ps (at_in k p ps h)) h

-- ---- numbers

-- the numbers that some nodes have
abbrev pub numbers_given : List (Option ℕ) → List ℕ
numbers_given numbers = flat_map (λ (o : Option ℕ). option_to_list o) numbers

pub number_given : (numbers : List (Option ℕ)) (k y : ℕ) → number_at numbers k ≡ Some y → IsIn y (numbers_given numbers)
number_given [] k y e = absurd (let z : None ≡ Some y = e in cc)
number_given (o ∷ numbers) zero y e = in_left y (option_to_list o) (numbers_given numbers) (subst (λ z. IsIn y (option_to_list z)) (sym e) (inl refl))
number_given (o ∷ numbers) (suc k) y e = in_right y (option_to_list o) (numbers_given numbers) (number_given numbers k y e)

-- a number that is given once is one place's
pub one_place : (numbers : List (Option ℕ)) (j k y : ℕ) → AreDistinct (numbers_given numbers) → number_at numbers j ≡ Some y → number_at numbers k ≡ Some y → j ≡ k
one_place [] j k y d e e' = absurd (let z : None ≡ Some y = e in cc)
one_place (o ∷ numbers) zero zero y d e e' = refl
one_place (o ∷ numbers) zero (suc k) y d e e' =
    absurd (apart (option_to_list o) (numbers_given numbers) y d (subst (λ z. IsIn y (option_to_list z)) (sym e) (inl refl)) (number_given numbers k y e'))
one_place (o ∷ numbers) (suc j) zero y d e e' =
    absurd (apart (option_to_list o) (numbers_given numbers) y d (subst (λ z. IsIn y (option_to_list z)) (sym e') (inl refl)) (number_given numbers j y e))
one_place (o ∷ numbers) (suc j) (suc k) y d e e' =
    let same = one_place numbers j k y (distinct_right (option_to_list o) (numbers_given numbers) d) e e' in ap (λ n. suc n) same
