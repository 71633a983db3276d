-- A bus with the cells of an address and of a size on it.
use Rattle.std.specs.Prelude.{◌≡◌, ◌≤◌}
use Rattle.dt_trees.specs.Placed.{PlacedTree, path_at, IsNode}
use Rattle.dt_resolve_model.specs.Answers.{answer}
use Rattle.dt_resolve_model.specs.Regions.{bus_cells}
use Rattle.dt_ranges.specs.declared.translating.Bus.{Bus}
use Rattle.dt_view.specs.Worlds.{world_of}

-- the bus is a node, and these are its cells
pub record IsBus (t : PlacedTree) (b : Bus) : Type 0 where
  pub there : IsNode t b.node
  pub cells : bus_cells (world_of t) (path_at t b.node) ≡ answer b.cells
  pub address : b.cells.address ≤ 4
  pub size : b.cells.size ≤ 4
