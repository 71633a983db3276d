-- What the rules of addresses and interrupts ask a tree for.
use Rattle.dt_trees.specs.Placed.{PlacedTree, reading_of}
use Rattle.dt_resolve_model.specs.World.{World, tree_world}

abbrev pub world_of : PlacedTree → World
world_of t = tree_world (reading_of t)
