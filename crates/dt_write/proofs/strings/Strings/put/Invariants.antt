use Rattle.std.proofs.Common.{◌≡◌, ◌++◌}
use Rattle.dt_write.proofs.Stored.{strings_to}
use Rattle.dt_write.proofs.strings.Strings.put.Given as goal

abbrev pub invariant-loop-number : goal.invariant-loop-number
invariant-loop-number l = l.out.items ≡ l.fn.out.items ++ strings_to l.self-inside.names l.number
