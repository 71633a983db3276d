-- What the parts of a route stand for in a tree.
use Rattle.std.specs.Prelude.{◌≡◌, ℕ, ◌-◌, ◌≤◌, List, length, take, drop, replicate}
use Rattle.dt_trees.specs.Placed.{PlacedTree, path_at, IsNode}
use Rattle.dt_resolve_model.specs.World.{quads_of}
use Rattle.dt_resolve_model.specs.Interrupts as meant
use Rattle.dt_irq.specs.declared.sending.Sent.{Sent}
use Rattle.dt_irq.specs.declared.sending.Entry.{Entry}
use Rattle.dt_irq.specs.declared.rows.MapRow.{MapRow}
use Rattle.dt_irq.specs.declared.hops.Interrupt.{Interrupt}
use Rattle.dt_irq.specs.declared.reached.Route.{Route}
use Rattle.dt_irq.specs.declared.spaces.RowCells.{RowCells}
use Rattle.dt_irq.specs.Cells.{quads}

abbrev pub sent_in : PlacedTree → Sent → meant.Sent
sent_in t s = record { node = path_at t s.node; specifier = quads_of s.specifier.now }

abbrev pub entry_in : PlacedTree → Entry → meant.Entry
entry_in t e = record { sent = sent_in t e.sent; rest = quads_of e.rest.now }

abbrev pub interrupt_in : PlacedTree → Interrupt → meant.Interrupt
interrupt_in t i = record { node = path_at t i.node; unit = quads_of i.unit.now; specifier = quads_of i.specifier.now }

abbrev pub row_in : PlacedTree → MapRow → meant.MapRow
row_in t r = record { compared = quads_of r.compared.now; parent = path_at t r.parent; unit = quads_of r.unit.now; specifier = quads_of r.specifier.now; size = r.size }

abbrev pub row_cells_in : RowCells → meant.RowCells
row_cells_in c = record { address = c.address; specifier = c.specifier }

abbrev pub route_in : PlacedTree → Route → meant.Route
route_in t r = record { controller = path_at t r.controller; cells = take r.len r.cells; hops = r.hops }

-- the specifier to which a route has come
abbrev pub end_of : PlacedTree → Route → meant.Sent
end_of t r = record { node = path_at t r.controller; specifier = quads (take r.len r.cells) }

-- a specifier of at most eight cells, at a node
pub record IsSpecified (t : PlacedTree) (node : ℕ) (specifier : List ℕ) : Type 0 where
  pub there : IsNode t node
  pub few : length specifier ≤ 32

-- the controller is a node, and behind the specifier's cells, eight at most, stand zeros
pub record HasArrived (t : PlacedTree) (r : Route) : Type 0 where
  pub there : IsNode t r.controller
  pub few : r.len ≤ 8
  pub zeros : drop r.len r.cells ≡ replicate (8 - r.len) 0
