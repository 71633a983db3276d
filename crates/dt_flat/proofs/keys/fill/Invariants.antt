-- What is hashed are the rows from the place on.
use Rattle.std.proofs.Common.{◌≡◌, ◌≤◌, ℕ, drop, length}
use Rattle.dt_flat.specs.Rows.{entry}
use Rattle.dt_flat.proofs.IndexLemmas.{place_from}
use Rattle.dt_flat.proofs.keys.fill.Given as goal

abbrev pub invariant-loop-place : goal.invariant-loop-place
invariant-loop-place l = record {
  within : l.place ≤ length l.rows;
  hashed : (p k : ℕ) → entry l.index.entries p k ≡ place_from l.place p k (drop l.place l.rows);
}

abbrev pub decreases-loop-place : goal.decreases-loop-place
decreases-loop-place l = l.place
