-- The contents of the fragments so far are in the table.
use Rattle.std.proofs.Common.{◌≡◌}
use Rattle.dt_overlay_object.proofs.Contents.{AreSoFar}
use Rattle.dt_overlay_object.proofs.brought.bring_all.Given as goal

abbrev pub invariant-loop-i : goal.invariant-loop-i
invariant-loop-i g l = record {
  contents : AreSoFar l.fragments l.i l.brought.contents.entries;
  numbers : l.brought.numbers ≡ l.initial.brought.numbers;
}
