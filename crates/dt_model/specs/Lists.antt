-- Words for lists.
use Rattle.std.specs.Prelude.{◌≡◌, ℕ, ◌<◌, Bool, true, List, [], ◌∷◌, ◌⊎◌, Option, None}
use Rattle.std.specs.List.{AllByRecursion}
use Rattle.std.specs.Option.{option_or}

-- x is an element of the list
abbrev pub IsIn : {X : Type 0} → X → List X → Type 0
IsIn x [] = ⊥
IsIn x (y ∷ ys) = (x ≡ y) ⊎ IsIn x ys

-- what the last element that has something has
abbrev pub last_of : {X A : Type 0} → (X → Option A) → List X → Option A
last_of f [] = None
last_of f (x ∷ xs) = option_or (last_of f xs) (f x)

-- each element is older than those behind it
abbrev pub FallBy : {X : Type 0} → (X → ℕ) → List X → Type 0
FallBy age [] = Unit {0}
FallBy age (x ∷ xs) = AllByRecursion (λ y. age y < age x) xs × FallBy age xs

-- the list has exactly the things of a kind, the oldest first
pub record AreInOrder {X : Type 0} (age : X → ℕ) (is_kind : X → Bool) (xs : List X) : Type 0 where
  pub sound : AllByRecursion (λ x. is_kind x ≡ true) xs
  pub complete : (x : X) → is_kind x ≡ true → IsIn x xs
  pub sorted : FallBy age xs
