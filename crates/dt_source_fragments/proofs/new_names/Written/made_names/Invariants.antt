-- The names so far, and those that are left.
use Rattle.std.proofs.Common.{◌≡◌, ◌≤◌, ◌+◌, ◌*◌, ◌-◌, ◌++◌, length}
use Rattle.dt_source_fragments.specs.FragmentNames.{made_names, texts}
use Rattle.dt_source_fragments.proofs.new_names.Written.made_names.Given as goal

abbrev pub invariant-loop : goal.invariant-loop
invariant-loop l = record {
  low : l.next ≤ l.counter * (length l.self + 1);
  made : texts l.names.items ++ made_names l.self (l.count - l.counter) l.next ≡ made_names l.self l.count 0;
}
