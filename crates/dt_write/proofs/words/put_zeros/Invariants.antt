use Rattle.std.proofs.Common.{◌≡◌, ◌++◌, ◌≤◌, ◌-◌, ◌%◌, replicate}
use Rattle.dt_write.proofs.words.put_zeros.Given as goal

abbrev pub invariant-loop : goal.invariant-loop
invariant-loop l = record {
  put : l.out.items ≡ l.fn.out.items ++ replicate l.counter 0;
  end : l.end ≡ (4 - l.size % 4) % 4;
  within : l.counter ≤ l.end;
}
