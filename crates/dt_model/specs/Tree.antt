-- The tree that a blob is read as (Devicetree Specification v0.4, chapters 2.2 and 5).
use Rattle.std.specs.Prelude.{ℕ, Bool, List, [], ◌∷◌, ◌++◌, Option, Some, None, is_some, option_and_then, if◌then◌else◌}
use Rattle.std.specs.Str.{bytes_eq}
use Rattle.dt_model.specs.Names.{Name}
use Rattle.dt_model.specs.Path.{Path}

-- a property: its name, and its value as bytes (2.2.4)
pub record Property : Type 0 where
  pub name : Name
  pub value : List ℕ

-- some siblings in order: the first of them with its name, its properties and its children, and then the others
pub data Forest : Type 0 where
  no_nodes : Forest
  branch : (name : Name) (properties : List Property) (children : Forest) (siblings : Forest) → Forest

-- what a blob says: the boot CPU, the memory reservations, the properties of the root, and the nodes below it
pub record Reading : Type 0 where
  pub boot_cpu : ℕ
  pub reservations : List (ℕ × ℕ)
  pub properties : List Property
  pub children : Forest

-- ---- look-ups

-- the value of the property of a name
abbrev pub value_of : List Property → Name → Option (List ℕ)
value_of [] name = None
value_of (p ∷ ps) name = if bytes_eq name p.name then Some p.value else value_of ps name

-- what a node has
pub record Node : Type 0 where
  pub properties : List Property
  pub children : Forest

-- the sibling of a name
abbrev pub sibling : Forest → Name → Option Node
sibling no_nodes name = None
sibling (branch x properties children siblings) name =
    if bytes_eq name x then Some (record { properties = properties; children = children }) else sibling siblings name

-- the node to which a path leads from a node
abbrev pub node_below : Node → Path → Option Node
node_below n [] = Some n
node_below n (x ∷ p) = option_and_then (λ c. node_below c p) (sibling n.children x)

abbrev pub root_of : Reading → Node
root_of t = record { properties = t.properties; children = t.children }

-- the node of a path
abbrev pub node_at : Reading → Path → Option Node
node_at t p = node_below (root_of t) p

-- whether the path is a node
abbrev pub stands_in : Reading → Path → Bool
stands_in t p = is_some (node_at t p)

-- the value of a property of the path's node
abbrev pub value_in : Reading → Path → Name → Option (List ℕ)
value_in t p name = option_and_then (λ n. value_of n.properties name) (node_at t p)

-- ---- preorder: a node, then its children, then its later siblings

-- a node by its path, with its properties
pub record Placed : Type 0 where
  pub path : Path
  pub properties : List Property

abbrev pub preorder : Path → Forest → List Placed
preorder path no_nodes = []
preorder path (branch name properties children siblings) =
    record { path = path ++ name ∷ []; properties = properties } ∷ (preorder (path ++ name ∷ []) children ++ preorder path siblings)

-- all nodes in preorder, the root first
abbrev pub nodes_of : Reading → List Placed
nodes_of t = record { path = []; properties = t.properties } ∷ preorder [] t.children
