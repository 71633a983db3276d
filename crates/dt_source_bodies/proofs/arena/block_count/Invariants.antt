-- The blocks so far, and those that are left.
use Rattle.std.proofs.Common.{◌≡◌, ◌+◌, ◌≤◌, drop, length}
use Rattle.dt_source_bodies.specs.Arena.{block_references}
use Rattle.dt_source_bodies.proofs.arena.block_count.Given as goal

abbrev pub invariant-loop-index : goal.invariant-loop-index
invariant-loop-index l = record {
  all : l.count + length (block_references (drop l.index l.items.places)) ≡ length (block_references l.items.places);
  few : l.count ≤ l.index;
}
