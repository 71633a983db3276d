use Rattle.std.proofs.Common.{◌≤◌}
use Rattle.dt_source_growing.proofs.changing.room_for.Given as goal

abbrev pub invariant-loop-index : goal.invariant-loop-index
invariant-loop-index l = record {
  nodes : l.nodes ≤ l.index;
  properties : l.properties ≤ l.index;
}
