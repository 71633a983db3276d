-- The nodes of a tree under construction in preorder, and the named tree that they make.
use Rattle.std.specs.Prelude.{◌≡◌, ℕ, zero, suc, ◌+◌, ◌<◌, List, [], ◌∷◌, ◌++◌, map, length, Option, None, Some, slice_get, if◌then◌else◌}
use Rattle.std.specs.Option.{option_map_or}
use Rattle.dt_model.specs.Limits.{most_names}
use Rattle.dt_model.specs.Names.{Name}
use Rattle.dt_model.specs.Named.{NodeReference, Content, NamedForest, no_nodes, branch, Named, Listed}
use Rattle.dt_source_growing.specs.declared.growing.Node.{Node}
use Rattle.dt_source_nodes.specs.declared.listing.Row.{Row}
use Rattle.dt_source_growing.specs.Grown.{name_said}
use Rattle.dt_source_nodes.specs.Owned.{AreOwned}

-- ---- nodes by their indices

-- the node to which a node belongs as a child, none where it was deleted
abbrev pub parent_of : Node → Option ℕ
parent_of n = if n.stands then Some n.parent else None

-- the same of some nodes in order; the first is the root
abbrev pub parents_of : List Node → List (Option ℕ)
parents_of [] = []
parents_of (root ∷ ns) = None ∷ map parent_of ns

-- the name of node k; the root has none
abbrev pub name_of : List Node → ℕ → Name
name_of nodes zero = []
name_of nodes (suc k) = option_map_or (λ (n : Node). name_said n.name) (slice_get nodes (suc k)) []

-- ---- rows

-- a node and what is below it, for each of some children of the parent, where the first of them gets this place
abbrev pub rows_each : (ℕ → ℕ → List Row) → (place parent : ℕ) → List ℕ → List Row
rows_each below place parent [] = []
rows_each below place parent (k ∷ ks) =
    record { node = k; parent = parent } ∷ (below k place ++ rows_each below (suc place + length (below k place)) parent ks)

-- what is below node k, which has this place, as deep as the depth
unfoldable pub rows_below : (children : ℕ → List ℕ) → (depth k place : ℕ) → List Row
rows_below children zero k place = []
rows_below children (suc depth) k place = rows_each (rows_below children depth) (suc place) place (children k)

-- a row with its place, and what is below its node
abbrev pub rows_of : (children : ℕ → List ℕ) → (depth : ℕ) → Row → (place : ℕ) → List Row
rows_of children depth r place = r ∷ rows_below children depth r.node place

-- The rows are those of the nodes that stand, in preorder.
pub record AreRows (nodes : List Node) (rows : List Row) : Type 0 where
  pub children : ℕ → List ℕ
  pub owned : AreOwned (parents_of nodes) (length nodes) children
  pub are : rows ≡ rows_of children most_names (record { node = 0; parent = 0 }) 0

-- The places of nodes are those among the rows; each node of a row has one, where there are so many nodes.
pub record ArePlaces (rows : List Row) (count : ℕ) (places : List (Option ℕ)) : Type 0 where
  pub size : length places ≡ count
  pub sound : (k j : ℕ) → slice_get places k ≡ Some (Some j) → (r : Row) × (slice_get rows j ≡ Some r) × (r.node ≡ k)
  pub complete : (j : ℕ) (r : Row) → slice_get rows j ≡ Some r → r.node < count → (i : ℕ) × (slice_get places r.node ≡ Some (Some i))

-- ---- the named tree

-- some siblings with what is below them
abbrev pub trees_of : (ℕ → Name) → (ℕ → Content NodeReference) → (ℕ → NamedForest NodeReference) → List ℕ → NamedForest NodeReference
trees_of name content below [] = no_nodes
trees_of name content below (k ∷ ks) = branch (name k) (content k) (below k) (trees_of name content below ks)

-- what is below node k, as deep as the depth
unfoldable pub forest_below : (ℕ → Name) → (ℕ → Content NodeReference) → (children : ℕ → List ℕ) → (depth k : ℕ) → NamedForest NodeReference
forest_below name content children zero k = no_nodes
forest_below name content children (suc depth) k = trees_of name content (forest_below name content children depth) (children k)

-- the tree of nodes with these names, this content and these children
abbrev pub tree_with : List (ℕ × ℕ) → (ℕ → Name) → (ℕ → Content NodeReference) → (children : ℕ → List ℕ) → Named NodeReference
tree_with reservations name content children = record {
  reservations = reservations;
  content = content 0;
  children = forest_below name content children most_names 0;
}

-- a row with the name and the content of its node
abbrev pub listed_row : (ℕ → Name) → (ℕ → Content NodeReference) → Row → Listed NodeReference
listed_row name content r = record { parent = r.parent; name = name r.node; content = content r.node }
