-- How the nodes of a list are added to a tree, one after another, under these numbers.
use Rattle.std.specs.Prelude.{ℕ, ◌<◌, Option, List, [], ◌∷◌, length}
use Rattle.std.specs.List.{AllByRecursion}
use Rattle.dt_model.specs.Names.{IsNodeName, IsPropertyName}
use Rattle.dt_model.specs.Instance.{numbered_properties}
use Rattle.dt_model.specs.Named.{NodeReference, Listed}
use Rattle.dt_model.specs.Tree.{Property}
use Rattle.dt_flat.specs.Arena.{Slot, with_child}
use Rattle.dt_flat.specs.Planted.{with_properties, MaySetAll}
use Rattle.dt_flat.specs.Refusals.{MayAdd}

-- nothing but memory is in the way of giving these properties to node p
pub record MayHave (slots : List Slot) (p : ℕ) (properties : List Property) : Type 0 where
  pub there : p < length slots
  pub named : AllByRecursion (λ (x : Property). IsPropertyName x.name) properties
  pub may : MaySetAll slots p properties

-- the nodes behind the next one of the list
abbrev pub with_node : List (Option ℕ) → List Slot → Listed NodeReference → List Slot
with_node numbers slots n = with_properties (with_child slots n.parent n.name) (length slots) (numbered_properties numbers (length slots) n.content)

-- nothing but memory is in the way of the next one
pub record MayCome (numbers : List (Option ℕ)) (slots : List Slot) (n : Listed NodeReference) : Type 0 where
  pub parent : n.parent < length slots
  pub name : IsNodeName n.name
  pub add : MayAdd slots n.parent n.name
  pub have : MayHave (with_child slots n.parent n.name) (length slots) (numbered_properties numbers (length slots) n.content)

-- the same of nodes one after another
abbrev pub grown : List (Option ℕ) → List Slot → List (Listed NodeReference) → List Slot
grown numbers slots [] = slots
grown numbers slots (n ∷ ns) = grown numbers (with_node numbers slots n) ns

abbrev pub MayGrow : List (Option ℕ) → List Slot → List (Listed NodeReference) → Type 0
MayGrow numbers slots [] = Unit {0}
MayGrow numbers slots (n ∷ ns) = MayCome numbers slots n × MayGrow numbers (with_node numbers slots n) ns

-- the same of all nodes; the first is the root
abbrev pub grown_all : List (Option ℕ) → List Slot → List (Listed NodeReference) → List Slot
grown_all numbers slots [] = slots
grown_all numbers slots (root ∷ ns) = grown numbers (with_properties slots 0 (numbered_properties numbers 0 root.content)) ns

abbrev pub MayGrowAll : List (Option ℕ) → List Slot → List (Listed NodeReference) → Type 0
MayGrowAll numbers slots [] = Unit {0}
MayGrowAll numbers slots (root ∷ ns) =
    MayHave slots 0 (numbered_properties numbers 0 root.content)
    × MayGrow numbers (with_properties slots 0 (numbered_properties numbers 0 root.content)) ns
