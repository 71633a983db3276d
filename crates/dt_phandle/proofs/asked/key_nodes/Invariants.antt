-- The nodes that are left key as all do.
use Rattle.std.proofs.Common.{◌≡◌, length, map, drop}
use Rattle.std.specs.List.{AllByRecursion}
use Rattle.dt_model.specs.NamedOf.{RefersBelow}
use Rattle.dt_phandle.specs.Asking.{asked_said, content_said, keyed_too, is_in_nodes}
use Rattle.dt_phandle.proofs.asked.key_nodes.Given as goal

abbrev pub invariant-loop-node : goal.invariant-loop-node
invariant-loop-node l = record {
  referred : AllByRecursion (RefersBelow (length l.fn.asked)) (map content_said (drop l.node-index l.nodes));
  same : keyed_too (is_in_nodes (map content_said (drop l.node-index l.nodes))) 0 (map asked_said l.asked)
      ≡ keyed_too (is_in_nodes (map content_said l.nodes)) 0 (map asked_said l.fn.asked);
}
