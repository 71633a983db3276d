-- The parts of a blob that the writer puts one after the other.
use Rattle.std.specs.Prelude.{◌≡◌, ℕ, ◌+◌, ◌≤◌, true, List, [], ◌∷◌, length, drop}
use Rattle.std.specs.List.{AllByRecursion}
use Rattle.dt_model.specs.Limits.{most_bytes}
use Rattle.dt_model.specs.Names.{Name}
use Rattle.dt_model.specs.Tree.{Property, Forest, no_nodes, branch, Reading}
use Rattle.dt_model.specs.Format.{reservation_block}
use Rattle.dt_flat.specs.Arena.{Slot, name_of, properties, below}
use Rattle.dt_write.specs.Written.{has, written}

-- the trees at these nodes
abbrev pub trees_at : List Slot → List ℕ → Forest
trees_at slots [] = no_nodes
trees_at slots (p ∷ ps) = branch (name_of slots p) (properties slots p) (below slots p) (trees_at slots ps)

-- node p with what is below it
abbrev pub tree_at : List Slot → ℕ → Forest
tree_at slots p = branch (name_of slots p) (properties slots p) (below slots p) no_nodes

-- the names of all properties are among the names
abbrev pub HasAll : List Name → List Property → Type 0
HasAll names ps = AllByRecursion (λ p. has names p.name ≡ true) ps

-- and those of the properties of nodes
abbrev pub HasBelow : List Name → Forest → Type 0
HasBelow names no_nodes = Unit {0}
HasBelow names (branch name ps cs ss) = HasAll names ps × HasBelow names cs × HasBelow names ss

-- the front of a blob whose header isn't set yet
pub record IsFront (reservations : List (ℕ × ℕ)) (front : List ℕ) : Type 0 where
  pub behind : drop 40 front ≡ reservation_block reservations
  pub size : length front ≡ 40 + length (reservation_block reservations)

-- the blob of a tree, which isn't too long
pub record IsBlob (t : Reading) (blob : List ℕ) : Type 0 where
  pub is : blob ≡ written t
  pub size : length blob ≤ most_bytes
