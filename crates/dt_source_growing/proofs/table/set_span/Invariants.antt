-- An owner that has no span yet has the empty one, as before.
use Rattle.std.proofs.Common.{◌≡◌, ◌≤◌, ◌+◌, ◌-◌, ℕ, length}
use Rattle.dt_source_growing.specs.Table.{span_at}
use Rattle.dt_source_growing.proofs.table.set_span.Given as goal

abbrev pub invariant-loop-spans : goal.invariant-loop-spans
invariant-loop-spans l = record {
  same : (i : ℕ) → span_at l.spans.items i ≡ span_at l.initial.spans.items i;
  longer : length l.initial.spans.items ≤ length l.spans.items;
}

abbrev pub decreases-loop-spans : goal.decreases-loop-spans
decreases-loop-spans l = l.owner + 1 - length l.spans.items
