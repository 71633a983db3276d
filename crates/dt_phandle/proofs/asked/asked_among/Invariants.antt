-- What is asked so far and by the nodes that are left is what all ask for.
use Rattle.std.proofs.Common.{◌≡◌, ◌++◌, map, drop}
use Rattle.dt_phandle.specs.Asking.{asked_said, content_said, own}
use Rattle.dt_phandle.proofs.asked.asked_among.Given as goal

abbrev pub invariant-loop-node : goal.invariant-loop-node
invariant-loop-node l = map asked_said l.asked.items ++ map own (map content_said (drop l.node-index l.nodes)) ≡ map own (map content_said l.nodes)
