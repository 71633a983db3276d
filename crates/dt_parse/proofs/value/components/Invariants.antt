use Rattle.std.proofs.Common.{◌≡◌, List, length}
use Rattle.dt_grammar.specs.Unchecked.{RawComponent, value_parts}
use Rattle.dt_grammar.specs.Wanted.{made_value, OneValue}
use Rattle.dt_source_items.specs.Gathered.{with_parts}
use Rattle.dt_parse.proofs.Leading.{Goes}
use Rattle.dt_parse.proofs.value.components.Given as goal

abbrev pub invariant-components : goal.invariant-components
invariant-components l = (done : List RawComponent) × Goes made_value OneValue (λ a. a) l.fn.cursor l.cursor done × (l.items ≡ with_parts l.initial.items (value_parts done))

abbrev pub decreases-components : goal.decreases-components
decreases-components l = length l.cursor
