use Rattle.std.proofs.Common.{◌≡◌, ◌≤◌, reverse}
use Rattle.dt_write.specs.Rows.{leading}
use Rattle.dt_write.proofs.sharing.tail_of.Given as goal

abbrev pub invariant-loop-place : goal.invariant-loop-place
invariant-loop-place l = (l.tail ≡ leading (reverse l.name) l.place) × (l.place ≤ 8)
