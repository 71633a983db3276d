use Rattle.std.proofs.Common.{◌≡◌, ℕ, ◌-◌, ◌<◌, List, ◌++◌, length, drop}
use Rattle.dt_source_nodes.specs.declared.listing.Row.{Row}
use Rattle.dt_source_nodes.specs.Owned.{group_of}
use Rattle.dt_source_nodes.specs.Listing.{rows_below, rows_each}
use Rattle.dt_source_nodes.proofs.listing.+add.Given as goal

abbrev pub decreases-add : goal.decreases-add
decreases-add l = l.depth

abbrev pub invariant-loop-child : goal.invariant-loop-child
invariant-loop-child l =
    let below : ℕ → ℕ → List Row = rows_below (group_of l.children) (l.depth - 1) in
    record {
      deep : 0 < l.depth;
      so_far : l.rows.items ++ rows_each below (length l.rows.items) l.place (drop l.child-index l.child-items)
          ≡ l.initial.rows.items ++ rows_each below (length l.initial.rows.items) l.place l.initial.child-items;
    }
