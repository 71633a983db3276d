-- Lists that are made of others: of two behind one another, and of those that elements have.
use Rattle.std.proofs.Common.{◌≡◌, List, [], ◌∷◌, ◌++◌, map, refl, sym, ap, subst, ◌∙◌, inl, inr}
use Rattle.std.specs.List.{flat_map}
use Rattle.dt_model.specs.Lists.{IsIn}
use Rattle.dt_model.specs.Valid.{AreDistinct}
use Rattle.dt_model.proofs.Tests.{in_append, in_map}
use Rattle.dt_model.proofs.Distinct.{distinct_append, not_twice}

pub map_append : {X Y : Type 0} (f : X → Y) (xs ys : List X) → map f (xs ++ ys) ≡ map f xs ++ map f ys
map_append f [] ys = refl
map_append f (x ∷ xs) ys = ap (λ z. f x ∷ z) (map_append f xs ys)

pub map_flat : {X Y Z : Type 0} (f : Y → Z) (g : X → List Y) (xs : List X) → map f (flat_map g xs) ≡ flat_map (λ x. map f (g x)) xs
map_flat f g [] = refl
map_flat f g (x ∷ xs) = map_append f (g x) (flat_map g xs) ∙ ap (λ zs. map f (g x) ++ zs) (map_flat f g xs)

pub from_flat : {X Y : Type 0} (f : X → List Y) (xs : List X) (y : Y) → IsIn y (flat_map f xs) → (x : X) × IsIn x xs × IsIn y (f x)
from_flat f [] y i = absurd i
from_flat f (x ∷ xs) y i = elim (in_append y (f x) (flat_map f xs) i) [
  | inl k ↦ (x, inl refl, k)
  | inr k ↦ let w = from_flat f xs y k in (w.0, inr w.1, w.2)
]

pub flat_of_map : {X Y Z : Type 0} (f : Y → List Z) (g : X → Y) (xs : List X) → flat_map f (map g xs) ≡ flat_map (λ x. f (g x)) xs
flat_of_map f g [] = refl
flat_of_map f g (x ∷ xs) = ap (λ zs. f (g x) ++ zs) (flat_of_map f g xs)

-- no two of them are the same where none is two elements', which are told apart by their keys
pub distinct_flat : {X Y K : Type 0} (key : X → K) (f : X → List Y) (xs : List X) → AreDistinct (map key xs) → ((x : X) → IsIn x xs → AreDistinct (f x))
    → ((x x' : X) (y : Y) → IsIn x xs → IsIn x' xs → IsIn y (f x) → IsIn y (f x') → key x ≡ key x') → AreDistinct (flat_map f xs)
distinct_flat key f [] d each own = tt
distinct_flat key f (x ∷ xs) d each own =
    distinct_append (f x) (flat_map f xs) (each x (inl refl)) (distinct_flat key f xs d.1 (λ z i. each z (inr i)) (λ z z' y i i'. own z z' y (inr i) (inr i')))
    (λ y i j.
    let w = from_flat f xs y j in
    not_twice (key x) (map key xs) d (subst (λ k. IsIn k (map key xs)) (sym (own x w.0 y (inl refl) (inr w.1) i w.2)) (in_map key xs w.0 w.1)))
