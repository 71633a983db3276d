use Rattle.dt_write.proofs.Holders.{names_of_all}
use Rattle.dt_write.proofs.Stored.{AreStored}
use Rattle.dt_write.proofs.strings.put_starts.Given as goal

abbrev pub invariant-loop-number : goal.invariant-loop-number
invariant-loop-number l = AreStored (names_of_all l.names) l.number l.starts.items l.size
