use Rattle.std.proofs.Common.{◌≡◌, length}
use Rattle.dt_read.specs.Keys.{keys_in, AreShallowFor}
use Rattle.dt_read.specs.declared.keys.Wanted.TheVariants.{Phandles}
use Rattle.dt_read.proofs.keys.next_phandle.Given as goal

abbrev pub invariant-loop-place : goal.invariant-loop-place
invariant-loop-place l =
    (keys_in Phandles l.open_nodes l.cursor ≡ keys_in Phandles l.fn.open_nodes l.fn.cursor) × AreShallowFor Phandles (length l.open_nodes) l.cursor

abbrev pub decreases-loop-place : goal.decreases-loop-place
decreases-loop-place l = length l.cursor
