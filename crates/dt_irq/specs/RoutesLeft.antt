-- The interrupts of a node that are left, as routes.
use Rattle.std.specs.Prelude.{◌≡◌, ℕ, List}
use Rattle.dt_model.specs.Path.{Path}
use Rattle.dt_trees.specs.Placed.{PlacedTree}
use Rattle.dt_resolve_model.specs.Answers.{answer}
use Rattle.dt_resolve_model.specs.World.{quads_of}
use Rattle.dt_irq.specs.Cells.{unit_at}
use Rattle.dt_irq.specs.Left.{AreSentFrom, EntriesLeft, bytes_left, entries_left}
use Rattle.dt_irq.specs.declared.routing.Routes.{Routes}
use Rattle.dt_view.specs.Worlds.{world_of}

-- the interrupts that are left, as what they are sent to, and the cells of the unit address of their node, as bytes
pub record RoutesLeft : Type 0 where
  pub entries : EntriesLeft
  pub unit : List ℕ

abbrev pub routes_left : Routes → RoutesLeft
routes_left r = record { entries = entries_left r.entries; unit = r.unit.now }

-- they are those of a node from an index on
pub record AreFrom (t : PlacedTree) (p : Path) (i : ℕ) (r : RoutesLeft) : Type 0 where
  pub entries : AreSentFrom t p i r.entries
  pub unit : unit_at (world_of t) p ≡ answer (quads_of r.unit)

-- the routes are those of a node from an index on
abbrev pub AreLeft : PlacedTree → Path → ℕ → Routes → Type 0
AreLeft t p i r = AreFrom t p i (routes_left r)

-- they are some node's
abbrev pub IsLeft : PlacedTree → Routes → Type 0
IsLeft t r = (p : Path) × (i : ℕ) × AreLeft t p i r

-- the length of the list of interrupts that is left, in bytes
abbrev pub length_left : Routes → ℕ
length_left r = bytes_left (routes_left r).entries
