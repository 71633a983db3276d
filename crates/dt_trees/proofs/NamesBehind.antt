-- Names behind a name among others.
use Rattle.std.proofs.Common.{◌≡◌, ◌≢◌, Bool, true, false, cond, List, [], ◌∷◌, refl}
use Rattle.std.specs.List.{AllByRecursion}
use Rattle.std.specs.Str.{bytes_eq}
use Rattle.std.proofs.lemmas.Slice.Eq.{bytes_eq-Decides}
use Rattle.dt_model.specs.Names.{Name}
use Rattle.dt_trees.specs.Placed.{names_behind}

pub differs : (x y : Name) → x ≢ y → bytes_eq x y ≡ false
differs x y differ = by_test (bytes_eq x y) refl
  where
    by_test : (b : Bool) → bytes_eq x y ≡ b → bytes_eq x y ≡ false
    by_test true is = absurd (differ ((bytes_eq-Decides x y).0 is))
    by_test false is = is

pub behind_all : (P : Name → Type 0) (x : Name) (xs : List Name) → AllByRecursion P xs → AllByRecursion P (names_behind x xs)
behind_all P x [] a = a
behind_all P x (y ∷ ys) a = by_test (bytes_eq x y) (behind_all P x ys a.1)
  where
    by_test : (b : Bool) → AllByRecursion P (names_behind x ys) → AllByRecursion P (cond b ys (names_behind x ys))
    by_test true more = a.1
    by_test false more = more
