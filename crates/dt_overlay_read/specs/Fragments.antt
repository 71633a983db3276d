-- The fragments of an object, by their nodes.
use Rattle.std.specs.Prelude.{ℕ, Bool}
use Rattle.dt_model.specs.Object.{is_fragment}
use Rattle.dt_trees.specs.Placed.{PlacedTree, path_at, last_name, below_in}

-- whether a node is a fragment, where it is a child of the root
abbrev pub is_fragment_node : PlacedTree → ℕ → Bool
is_fragment_node t k = is_fragment (last_name (path_at t k)) (below_in t k)
