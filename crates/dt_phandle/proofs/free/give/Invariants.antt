-- The numbers so far and those of the nodes that are left are a numbering.
use Rattle.std.proofs.Common.{◌≤◌, ◌+◌, map, drop}
use Rattle.std.specs.HashSet.{hash_set_len}
use Rattle.dt_phandle.specs.Asking.{asked_said}
use Rattle.dt_phandle.specs.Least.{AreGiven}
use Rattle.dt_phandle.proofs.free.give.Given as goal

abbrev pub invariant-loop-node : goal.invariant-loop-node
invariant-loop-node l = record {
  given : AreGiven (map asked_said l.asked) (map asked_said (drop l.node-index l.asked)) l.numbers.items l.free.written l.free.next;
  size : l.free.next + hash_set_len l.free.written ≤ l.fn.free.next + hash_set_len l.fn.free.written + l.node-index;
}
