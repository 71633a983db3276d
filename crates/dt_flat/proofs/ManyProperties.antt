-- Properties that are set one after another.
use Rattle.std.proofs.Common.{◌≡◌, ℕ, List, [], ◌∷◌, ◌++◌, length, refl, ◌∙◌}
use Rattle.dt_model.specs.Tree.{Property}
use Rattle.dt_flat.specs.Arena.{Slot, with_property}
use Rattle.dt_flat.specs.Planted.{with_properties}
use Rattle.dt_flat.proofs.AfterProperty.{length-with_property}

pub length-with_properties : (slots : List Slot) (p : ℕ) (xs : List Property) → length (with_properties slots p xs) ≡ length slots
length-with_properties slots p [] = refl
length-with_properties slots p (x ∷ xs) = length-with_properties (with_property slots p x.name x.value) p xs ∙ length-with_property slots p x.name x.value

pub properties-append : (slots : List Slot) (p : ℕ) (xs ys : List Property) → with_properties slots p (xs ++ ys) ≡ with_properties (with_properties slots p xs) p ys
properties-append slots p [] ys = refl
properties-append slots p (x ∷ xs) ys = properties-append (with_property slots p x.name x.value) p xs ys
