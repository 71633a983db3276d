-- Trees whose nodes are numbered in the order in which they were made, as trees with places.
use Rattle.std.specs.Prelude.{ℕ, suc, ◌==◌, List, [], ◌∷◌, drop, if◌then◌else◌}
use Rattle.dt_flat.specs.Arena.{Arena, Slot, properties}
use Rattle.dt_trees.specs.Placed.{Nodes, no_nodes, node, PlacedTree}

-- the trees of those of these nodes that have the parent p, where the first of these nodes has number i
abbrev pub nodes_among : ℕ → List Slot → ℕ → Nodes
nodes_among i [] p = no_nodes
nodes_among i (n ∷ ns) p =
    if n.parent == p
    then node i n.name n.properties (nodes_among (suc i) ns i) (nodes_among (suc i) ns p)
    else nodes_among (suc i) ns p

-- what is below p
abbrev pub nodes_below : List Slot → ℕ → Nodes
nodes_below slots p = nodes_among (suc p) (drop (suc p) slots) p

-- the tree, each node's number as its place
abbrev pub numbered_tree : Arena → PlacedTree
numbered_tree a = record { boot_cpu = a.boot_cpu; reservations = a.reservations; place = 0; properties = properties a.slots 0; children = nodes_below a.slots 0 }
