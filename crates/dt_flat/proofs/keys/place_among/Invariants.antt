-- The first row of the name is among those that are left.
use Rattle.std.proofs.Common.{◌≡◌, ◌<◌, ◌≤◌, length}
use Rattle.std.specs.List.{AllByRecursion}
use Rattle.dt_flat.specs.Rows.{place_among}
use Rattle.dt_flat.proofs.keys.place_among.Given as goal

abbrev pub invariant-loop-rank : goal.invariant-loop-rank
invariant-loop-rank l = record {
  within : AllByRecursion (λ rank. (0 < rank) × (rank ≤ length l.rows)) l.ranks;
  same : place_among l.name l.rows l.fn.ranks ≡ place_among l.name l.rows l.ranks;
}

abbrev pub decreases-loop-rank : goal.decreases-loop-rank
decreases-loop-rank l = length l.ranks
