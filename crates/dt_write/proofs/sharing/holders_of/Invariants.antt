use Rattle.dt_write.proofs.Holders.{names_of_all, AreHeld}
use Rattle.dt_write.proofs.sharing.holders_of.Given as goal

abbrev pub invariant-loop-row : goal.invariant-loop-row
invariant-loop-row l = AreHeld (names_of_all l.names) l.row-items l.row-index l.stack.items l.holders.items
