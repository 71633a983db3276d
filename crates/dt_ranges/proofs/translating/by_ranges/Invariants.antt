use Rattle.std.proofs.Common.{◌≡◌, ◌+◌, ◌*◌, ◌-◌, length}
use Rattle.dt_resolve_model.specs.World.{quads_of}
use Rattle.dt_resolve_model.specs.Regions.{entries, mapped_by}
use Rattle.dt_ranges.proofs.translating.by_ranges.Given as goal

-- mapping by the ranges that are left is mapping by all
abbrev pub invariant-loop-done : goal.invariant-loop-done
invariant-loop-done l = record {
  long : length l.rest ≡ (l.count - l.done) * (4 * (l.widths.child + l.widths.above + l.widths.length));
  left : mapped_by l.widths l.size l.at (entries (l.count - l.done) (l.widths.child + l.widths.above + l.widths.length) (quads_of l.rest)) ≡ mapped_by l.widths l.size l.at (entries l.count (l.widths.child + l.widths.above + l.widths.length) (quads_of l.ranges));
}
