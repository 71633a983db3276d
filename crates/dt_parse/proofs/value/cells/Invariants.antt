use Rattle.std.proofs.Common.{◌≡◌, List, length}
use Rattle.dt_grammar.specs.Unchecked.{RawCell, cells_parts}
use Rattle.dt_grammar.specs.Wanted.{made_cells, SomeCells}
use Rattle.dt_grammar.specs.Faults.{in_elements}
use Rattle.dt_source_items.specs.Gathered.{with_parts}
use Rattle.dt_parse.proofs.Leading.{Goes}
use Rattle.dt_parse.proofs.value.cells.Given as goal

abbrev pub invariant-cells : goal.invariant-cells
invariant-cells l = (done : List RawCell) × Goes made_cells SomeCells (in_elements l.bits) l.fn.cursor l.cursor done × (l.items ≡ with_parts l.initial.items (cells_parts l.bits done))

abbrev pub decreases-cells : goal.decreases-cells
decreases-cells l = length l.cursor
