-- Each number from the first one up to here has a node.
use Rattle.std.proofs.Common.{◌≤◌, ◌-◌, ◌^◌}
use Rattle.dt_flat.specs.Numbers.{AreTaken, table_of}
use Rattle.dt_flat.proofs.phandles.free_from.Given as goal

abbrev pub invariant-loop-number : goal.invariant-loop-number
invariant-loop-number l = record {
  above : l.from ≤ l.number;
  taken : AreTaken (table_of l.holders) l.from l.number;
}

abbrev pub decreases-loop-number : goal.decreases-loop-number
decreases-loop-number l = 2 ^ 32 - l.number
