-- Trees each of whose nodes has its place in the blob, by which a reader names it.
use Rattle.std.specs.Prelude.{◌≡◌, ◌==◌, ℕ, Bool, false, List, [], ◌∷◌, ◌++◌, Option, Some, None, if◌then◌else◌}
use Rattle.std.specs.Str.{bytes_eq}
use Rattle.dt_model.specs.Names.{Name}
use Rattle.dt_model.specs.Path.{Path}
use Rattle.dt_model.specs.Tree as tree
use Rattle.dt_model.specs.Tree.{Property, Forest, branch, Reading, Node, Placed, node_at, nodes_of}
use Rattle.dt_model.specs.Valid.{names}

-- A tree each of whose nodes has its place: the offset of its BEGIN_NODE in the blob.
pub data Nodes : Type 0 where
  no_nodes : Nodes
  node : (place : ℕ) (name : Name) (properties : List Property) (children siblings : Nodes) → Nodes

-- the same without places
abbrev pub forest_of : Nodes → Forest
forest_of no_nodes = tree.no_nodes
forest_of (node place name properties children siblings) = branch name properties (forest_of children) (forest_of siblings)

pub record PlacedTree : Type 0 where
  pub boot_cpu : ℕ
  pub reservations : List (ℕ × ℕ)
  pub place : ℕ
  pub properties : List Property
  pub children : Nodes

abbrev pub reading_of : PlacedTree → Reading
reading_of t = record { boot_cpu = t.boot_cpu; reservations = t.reservations; properties = t.properties; children = forest_of t.children }

-- the place of the node of a path, from a node at a place and its children
abbrev pub place_below : ℕ → Nodes → Path → Option ℕ
place_below at nodes [] = Some at
place_below at no_nodes (x ∷ p) = None
place_below at (node place name properties children siblings) (x ∷ p) =
    if bytes_eq x name then place_below place children p else place_below at siblings (x ∷ p)

abbrev pub place_of : PlacedTree → Path → Option ℕ
place_of t path = place_below t.place t.children path

-- the node has this path
abbrev pub IsAt : PlacedTree → Path → ℕ → Type 0
IsAt t path place = place_of t path ≡ Some place

-- ---- nodes by their places

abbrev pub is_place : Option ℕ → ℕ → Bool
is_place None k = false
is_place (Some j) k = j == k

-- the path of the first of some nodes that has the place
abbrev pub path_among : PlacedTree → List Placed → ℕ → Path
path_among t [] k = []
path_among t (n ∷ ns) k = if is_place (place_of t n.path) k then n.path else path_among t ns k

-- the path of a node, and the root's of what is no node's place
unfoldable pub path_at : PlacedTree → ℕ → Path
path_at t k = path_among t (nodes_of (reading_of t)) k

-- a place that is a node's
abbrev pub IsNode : PlacedTree → ℕ → Type 0
IsNode t k = IsAt t (path_at t k) k

-- each place is that of one path
abbrev pub HasPlacesApart : PlacedTree → Type 0
HasPlacesApart t = (p q : Path) (node : ℕ) → IsAt t p node → IsAt t q node → p ≡ q

-- ---- what a node has, by its path

-- the last name of a path, and none for the root's
abbrev pub last_name : Path → Name
last_name [] = []
last_name (x ∷ []) = x
last_name (x ∷ y ∷ p) = last_name (y ∷ p)

abbrev pub properties_found : Option Node → List Property
properties_found None = []
properties_found (Some n) = n.properties

abbrev pub names_under : Option Node → List Name
names_under None = []
names_under (Some n) = names n.children

abbrev pub forest_under : Option Node → Forest
forest_under None = tree.no_nodes
forest_under (Some n) = n.children

-- the properties of the path's node, in order
abbrev pub properties_at : PlacedTree → Path → List Property
properties_at t path = properties_found (node_at (reading_of t) path)

-- the names of its children, in order
abbrev pub child_names : PlacedTree → Path → List Name
child_names t path = names_under (node_at (reading_of t) path)

-- what is below it
abbrev pub below_at : PlacedTree → Path → Forest
below_at t path = forest_under (node_at (reading_of t) path)

-- what is below a node
abbrev pub below_in : PlacedTree → ℕ → Forest
below_in t k = below_at t (path_at t k)

-- the place of the first of some children
abbrev pub first_place_of : PlacedTree → Path → List Name → Option ℕ
first_place_of t path [] = None
first_place_of t path (x ∷ xs) = place_of t (path ++ x ∷ [])

-- the names behind a name
abbrev pub names_behind : Name → List Name → List Name
names_behind x [] = []
names_behind x (y ∷ ys) = if bytes_eq x y then ys else names_behind x ys
