-- A tree whose nodes are numbered in the order in which they were made.
use Rattle.std.specs.Prelude.{◌≡◌, ℕ, zero, suc, ◌+◌, ◌<◌, ◌≤◌, ◌==◌, if◌then◌else◌, List, [], ◌∷◌, ◌++◌, drop, length, option_and_then, Option, Some, None, codes}
use Rattle.std.specs.Str.{bytes_eq}
use Rattle.std.specs.Int.{w32, from_be_bytes}
use Rattle.dt_model.specs.Limits.{most_names, most_nodes}
use Rattle.dt_model.specs.Names.{Name}
use Rattle.dt_model.specs.Path.{Path}
use Rattle.dt_model.specs.Changes.{set_property}
use Rattle.dt_model.specs.Tree.{Property, Forest, no_nodes, branch, Reading, value_of}

-- a node: the number of its parent, how many names its path has, its name, its properties in order
pub record Slot : Type 0 where
  pub parent : ℕ
  pub depth : ℕ
  pub name : Name
  pub properties : List Property

-- the root is node 0, and each other node comes after its parent
pub record Arena : Type 0 where
  pub boot_cpu : ℕ
  pub reservations : List (ℕ × ℕ)
  pub slots : List Slot

-- an arena of a root alone
abbrev pub root_alone : ℕ → Arena
root_alone boot_cpu = record { boot_cpu = boot_cpu; reservations = []; slots = record { parent = 0; depth = 0; name = []; properties = [] } ∷ [] }

-- ---- look-ups by number

-- which of these nodes have the parent p, where the first of them has number i
abbrev pub children_among : ℕ → List Slot → ℕ → List ℕ
children_among i [] p = []
children_among i (n ∷ ns) p = if n.parent == p then i ∷ children_among (suc i) ns p else children_among (suc i) ns p

-- the children of p in order
abbrev pub children : List Slot → ℕ → List ℕ
children slots p = children_among (suc p) (drop (suc p) slots) p

-- the same with their names
pub record Child : Type 0 where
  pub name : Name
  pub node : ℕ

abbrev pub named_among : ℕ → List Slot → ℕ → List Child
named_among i [] p = []
named_among i (n ∷ ns) p =
    if n.parent == p then record { name = n.name; node = i } ∷ named_among (suc i) ns p else named_among (suc i) ns p

abbrev pub named_children : List Slot → ℕ → List Child
named_children slots p = named_among (suc p) (drop (suc p) slots) p

-- the first child of a name
abbrev pub child_of : List Child → Name → Option ℕ
child_of [] name = None
child_of (c ∷ cs) name = if bytes_eq name c.name then Some c.node else child_of cs name

-- the children behind that of a name
abbrev pub children_behind : Name → List Child → List Child
children_behind name [] = []
children_behind name (c ∷ cs) = if bytes_eq name c.name then cs else children_behind name cs

-- the first of some children
abbrev pub first_node : List Child → Option ℕ
first_node [] = None
first_node (c ∷ cs) = Some c.node

-- the properties of node p, none where there is no such node
abbrev pub properties : List Slot → ℕ → List Property
properties [] p = []
properties (n ∷ ns) zero = n.properties
properties (n ∷ ns) (suc p) = properties ns p

abbrev pub parent_of : List Slot → ℕ → ℕ
parent_of [] p = 0
parent_of (n ∷ ns) zero = n.parent
parent_of (n ∷ ns) (suc p) = parent_of ns p

abbrev pub depth_of : List Slot → ℕ → ℕ
depth_of [] p = 0
depth_of (n ∷ ns) zero = n.depth
depth_of (n ∷ ns) (suc p) = depth_of ns p

-- the name of node p
abbrev pub name_of : List Slot → ℕ → Name
name_of [] p = []
name_of (n ∷ ns) zero = n.name
name_of (n ∷ ns) (suc p) = name_of ns p

-- the node to which a path leads from node p
abbrev pub node_from : List Slot → ℕ → Path → Option ℕ
node_from slots p [] = Some p
node_from slots p (name ∷ names) = option_and_then (λ c. node_from slots c names) (child_of (named_children slots p) name)

-- the number that a value of four bytes gives a node (Devicetree Specification v0.4, 2.3.3)
abbrev pub number_of_value : Option (List ℕ) → Option ℕ
number_of_value None = None
number_of_value (Some value) = if length value == 4 then Some (from_be_bytes w32 value) else None

-- the number of node p, which its property phandle gives
abbrev pub phandle_at : List Slot → ℕ → Option ℕ
phandle_at slots p = number_of_value (value_of (properties slots p) (codes "phandle"))

-- ---- changes

-- the nodes after a child of p is added
abbrev pub with_child : List Slot → ℕ → Name → List Slot
with_child slots p name = slots ++ record { parent = p; depth = depth_of slots p + 1; name = name; properties = [] } ∷ []

-- the nodes after a property of node p is set
abbrev pub with_property : List Slot → ℕ → Name → List ℕ → List Slot
with_property [] p name value = []
with_property (n ∷ ns) zero name value = record n { properties = set_property n.properties name value } ∷ ns
with_property (n ∷ ns) (suc p) name value = n ∷ with_property ns p name value

-- ---- the tree

-- the trees of those of these nodes that have the parent p, where the first of these nodes has number i
abbrev pub forest_among : ℕ → List Slot → ℕ → Forest
forest_among i [] p = no_nodes
forest_among i (n ∷ ns) p =
    if n.parent == p
    then branch n.name n.properties (forest_among (suc i) ns i) (forest_among (suc i) ns p)
    else forest_among (suc i) ns p

-- what is below p
abbrev pub below : List Slot → ℕ → Forest
below slots p = forest_among (suc p) (drop (suc p) slots) p

-- what the arena says, whatever the numbers of its nodes
abbrev pub reading : Arena → Reading
reading a = record {
  boot_cpu = a.boot_cpu;
  reservations = a.reservations;
  properties = properties a.slots 0;
  children = below a.slots 0;
}

-- what is true of the numbers, the depths and the parents of each arena
pub record IsRooted (slots : List Slot) : Type 0 where
  pub some : 0 < length slots
  pub few : length slots ≤ most_nodes
  pub unnamed : name_of slots 0 ≡ []
  pub top : depth_of slots 0 ≡ 0
  pub above : (i : ℕ) → 0 < i → i < length slots → parent_of slots i < i
  pub deeper : (i : ℕ) → 0 < i → i < length slots → depth_of slots i ≡ depth_of slots (parent_of slots i) + 1
  pub shallow : (i : ℕ) → i < length slots → depth_of slots i ≤ most_names
