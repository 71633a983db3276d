use Rattle.std.proofs.Common.{◌≡◌, ◌<◌, take, get_or, Bor, List, ℕ}
use Rattle.dt_write.specs.Rows.{rows_from}
use Rattle.dt_write.proofs.sharing.rows_of.Given as goal

abbrev pub invariant-loop-number : goal.invariant-loop-number
invariant-loop-number l =
    (l.rows.items ≡ rows_from 0 (take l.number l.names))
    × ((i : ℕ) (d : Bor (List ℕ)) → i < l.number → (j : ℕ) → get_or (get_or l.names i d).now j 0 < 256)
