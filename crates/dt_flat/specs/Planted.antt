-- The nodes of an arena in which a whole tree is made: a node before its children, and children in order.
use Rattle.std.specs.Prelude.{◌≡◌, ℕ, List, [], ◌∷◌, ◌++◌, None, length, map}
use Rattle.std.specs.Int.{w32, from_be_bytes}
use Rattle.dt_model.specs.Tree.{Property, Forest, no_nodes, branch, Reading, value_of}
use Rattle.dt_model.specs.Valid.{AreDistinct, phandle_values, phandles}
use Rattle.dt_flat.specs.Arena.{Arena, Slot, root_alone, properties, with_child, with_property}
use Rattle.dt_flat.specs.Refusals.{MayAdd, MaySet}

-- the nodes after properties of node p are set one after another
abbrev pub with_properties : List Slot → ℕ → List Property → List Slot
with_properties slots p [] = slots
with_properties slots p (x ∷ xs) = with_properties (with_property slots p x.name x.value) p xs

-- the nodes after a forest is made below node p
abbrev pub planted : List Slot → ℕ → Forest → List Slot
planted slots p no_nodes = slots
planted slots p (branch name properties children siblings) =
    planted (planted (with_properties (with_child slots p name) (length slots) properties) (length slots) children) p siblings

-- the nodes of a tree
abbrev pub planted_tree : List Property → Forest → List Slot
planted_tree properties children = planted (with_properties (root_alone 0).slots 0 properties) 0 children

-- the arena of a tree
abbrev pub arena_of : Reading → Arena
arena_of t = record { boot_cpu = t.boot_cpu; reservations = t.reservations; slots = planted_tree t.properties t.children }

-- the property may be set, and p has none of its name
pub record MaySetNew (slots : List Slot) (p : ℕ) (x : Property) : Type 0 where
  pub fresh : value_of (properties slots p) x.name ≡ None
  pub may : MaySet slots p x.name x.value

-- each of the properties may be set in its turn
abbrev pub MaySetAll : List Slot → ℕ → List Property → Type 0
MaySetAll slots p [] = Unit {0}
MaySetAll slots p (x ∷ xs) = MaySetNew slots p x × MaySetAll (with_property slots p x.name x.value) p xs

-- each node of the forest may be added, and each of its properties set, in its turn
abbrev pub MayPlant : List Slot → ℕ → Forest → Type 0
MayPlant slots p no_nodes = Unit {0}
MayPlant slots p (branch name properties children siblings) =
    MayAdd slots p name
    × MaySetAll (with_child slots p name) (length slots) properties
    × MayPlant (with_properties (with_child slots p name) (length slots) properties) (length slots) children
    × MayPlant (planted (with_properties (with_child slots p name) (length slots) properties) (length slots) children) p siblings

-- the whole tree may be made
pub record MayMake (properties : List Property) (children : Forest) : Type 0 where
  pub set : MaySetAll (root_alone 0).slots 0 properties
  pub plant : MayPlant (with_properties (root_alone 0).slots 0 properties) 0 children

-- the numbers of some phandles
abbrev pub numbers : List (List ℕ) → List ℕ
numbers values = map (λ value. from_be_bytes w32 value) values

-- no two nodes have one number
abbrev pub HasOwnNumbers : List Property → Forest → Type 0
HasOwnNumbers properties children = AreDistinct (numbers (phandle_values properties ++ phandles children))
