use Rattle.std.proofs.Common.{◌≡◌, List, length}
use Rattle.dt_grammar.specs.Unchecked.{RawCell, cells_parts}
use Rattle.dt_grammar.specs.Wanted.{made_cells, SomeBytes}
use Rattle.dt_source_items.specs.Gathered.{with_parts}
use Rattle.dt_parse.proofs.Leading.{Goes}
use Rattle.dt_parse.proofs.value.bytes.Given as goal

abbrev pub invariant-bytes : goal.invariant-bytes
invariant-bytes l = (done : List RawCell) × Goes made_cells SomeBytes (λ a. a) l.fn.cursor l.cursor done × (l.items ≡ with_parts l.initial.items (cells_parts 8 done))

abbrev pub decreases-bytes : goal.decreases-bytes
decreases-bytes l = length l.cursor
