-- The nodes behind have marked those that they need.
use Rattle.std.proofs.Common.{◌≡◌, ◌+◌, ℕ, length, map, drop}
use Rattle.dt_source_named_tree.specs.Said.{node_said}
use Rattle.dt_marks.specs.Mirrored.{marked_at, needed_by}
use Rattle.dt_marks.proofs.mirror.mark.Given as goal

abbrev pub invariant-loop-i : goal.invariant-loop-i
invariant-loop-i l = record {
  size : length l.needed ≡ length l.others + 1;
  each : (j : ℕ) → marked_at l.needed j ≡ needed_by (1 + l.i) (map node_said (drop l.i l.others)) j;
}
