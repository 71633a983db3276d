-- No row before the place has the key.
use Rattle.std.proofs.Common.{◌≡◌, ◌<◌, ◌≤◌, ◌-◌, ℕ, false, slice_get, Some}
use Rattle.dt_source_growing.specs.Table.{Key, is_key}
use Rattle.dt_source_growing.specs.declared.table.Last.{Last}
use Rattle.dt_source_growing.proofs.table.seek.Given as goal

abbrev pub invariant-loop-place : goal.invariant-loop-place
invariant-loop-place l = record {
  from : l.span.first ≤ l.place;
  none : (j : ℕ) (f : Key × Last) → j < l.place → slice_get l.rows j ≡ Some f → is_key l.owner l.name f.0 ≡ false;
}

abbrev pub decreases-loop-place : goal.decreases-loop-place
decreases-loop-place l = l.span.behind - l.place
