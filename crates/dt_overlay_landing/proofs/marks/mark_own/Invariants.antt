-- The writes that are left give the marks of all.
use Rattle.std.proofs.Common.{◌≡◌, ℕ, drop}
use Rattle.dt_overlay_base.specs.NodeNumbers.{at_node}
use Rattle.dt_overlay_landing.specs.Marks.{with_own}
use Rattle.dt_overlay_landing.proofs.marks.mark_own.Given as goal

abbrev pub invariant-loop-write : goal.invariant-loop-write
invariant-loop-write l =
    (k : ℕ) → with_own (drop l.write-index l.writes) k (at_node l.marks.entries k) ≡ with_own l.writes k (at_node l.initial.marks.entries k)
