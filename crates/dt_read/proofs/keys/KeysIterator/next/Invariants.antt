use Rattle.std.proofs.Common.{◌≡◌, length}
use Rattle.dt_read.specs.Keys.{AreShallowFor, keys_in}
use Rattle.dt_read.proofs.keys.KeysIterator.next.Given as goal

abbrev pub invariant-loop-place : goal.invariant-loop-place
invariant-loop-place l =
    AreShallowFor l.self-inside.wanted (length l.self-inside.open_nodes) l.self-inside.cursor
    × (keys_in l.self-inside.wanted l.self-inside.open_nodes l.self-inside.cursor
    ≡ keys_in l.initial.self-inside.wanted l.initial.self-inside.open_nodes l.initial.self-inside.cursor)
    × (l.self-inside.wanted ≡ l.initial.self-inside.wanted)

abbrev pub decreases-loop-place : goal.decreases-loop-place
decreases-loop-place l = length l.self-inside.cursor
