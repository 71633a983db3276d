-- The entries of a node's `reg` that are left, as regions.
use Rattle.std.specs.Prelude.{◌≡◌, ◌+◌, ◌*◌, ◌≤◌, ℕ, List, length, codes}
use Rattle.dt_model.specs.Path.{Path}
use Rattle.dt_names.specs.declared.fault.FaultKind.TheVariants.{NoReg}
use Rattle.dt_trees.specs.Placed.{PlacedTree, path_at, IsNode}
use Rattle.dt_resolve_model.specs.declared.regions.BusCells.{BusCells}
use Rattle.dt_resolve_model.specs.declared.regions.Region.{Region}
use Rattle.dt_resolve_model.specs.Answers.{Answer, answer, ◌>>=◌}
use Rattle.dt_resolve_model.specs.World.{Quad, World, quads_of}
use Rattle.dt_resolve_model.specs.Regions.{joined, cells_at, bus_cells, entries, entry_at, region_at, region}
use Rattle.dt_ranges.specs.declared.listing.Regions.{Regions}
use Rattle.dt_view.specs.Worlds.{world_of}

-- the entries that are left: the node whose bus they are on, the cells of that bus, how many they are, and their bytes
pub record RegionsLeft : Type 0 where
  pub bus : ℕ
  pub own : BusCells
  pub count : ℕ
  pub bytes : List ℕ

abbrev pub regions_left : Regions → RegionsLeft
regions_left r = record { bus = r.bus.node; own = r.bus.cells; count = r.count; bytes = r.rest.now }

-- the region of an entry, on a bus with these cells
abbrev pub region_of : World → Path → BusCells → List Quad → Answer Region
region_of w q own e = joined (cells_at 0 own.address e) >>= λ address. joined (cells_at own.address own.size e)
    >>= λ size. region_at w (codes "ranges") q address size

-- they are those of a node from an index on
pub record AreFrom (t : PlacedTree) (p : Path) (i : ℕ) (r : RegionsLeft) : Type 0 where
  pub bus : IsNode t r.bus
  pub cells : bus_cells (world_of t) (path_at t r.bus) ≡ answer r.own
  pub address : r.own.address ≤ 4
  pub size : r.own.size ≤ 4
  pub long : length r.bytes ≡ r.count * (4 * (r.own.address + r.own.size))
  pub left : (k : ℕ) → region (world_of t) p (i + k)
      ≡ (entry_at NoReg k (entries r.count (r.own.address + r.own.size) (quads_of r.bytes)) >>= region_of (world_of t) (path_at t r.bus) r.own)

-- the regions are those of a node from an index on
abbrev pub AreLeft : PlacedTree → Path → ℕ → Regions → Type 0
AreLeft t p i r = AreFrom t p i (regions_left r)

-- they are some node's
abbrev pub IsLeft : PlacedTree → Regions → Type 0
IsLeft t r = (p : Path) × (i : ℕ) × AreLeft t p i r

-- how many they are
abbrev pub entries_left : Regions → ℕ
entries_left r = (regions_left r).count
