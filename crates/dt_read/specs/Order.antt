-- Places that rise in preorder, so that each is one node's.
use Rattle.dt_trees.specs.Placed.{Nodes, no_nodes, node}
use Rattle.dt_read.specs.Marks.{Root}
use Rattle.std.specs.Prelude.{ℕ, ◌+◌, ◌≤◌}

-- the places of siblings, and of what is below them, rise from low and stay below high
abbrev pub Rise : ℕ → Nodes → ℕ → Type 0
Rise low no_nodes high = low ≤ high
Rise low (node place name properties children siblings) high = (low ≤ place) × (middle : ℕ) × Rise (place + 1) children middle × Rise middle siblings high

pub record HasRisingPlaces (tree : Root) : Type 0 where
  pub high : ℕ
  pub rise : Rise (tree.place + 1) tree.children high
