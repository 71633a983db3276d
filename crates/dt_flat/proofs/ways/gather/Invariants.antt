-- What is written leads from where the loop stands to the node.
use Rattle.std.proofs.Common.{◌≡◌, ◌<◌, ◌≤◌, length, map, drop, Some}
use Rattle.std.specs.List.{AllByRecursion}
use Rattle.dt_flat.specs.Arena.{depth_of, name_of, node_from}
use Rattle.dt_flat.proofs.ways.gather.Given as goal

abbrev pub decreases-loop-at : goal.decreases-loop-at
decreases-loop-at l = l.at

abbrev pub invariant-loop-at : goal.invariant-loop-at
invariant-loop-at l = record {
  there : l.at < length l.places;
  deep : depth_of l.places l.at ≤ l.first;
  within : l.first ≤ 64;
  leads : node_from l.places l.at (map (name_of l.places) (drop l.first l.way)) ≡ Some l.node;
  nodes : AllByRecursion (λ i. (0 < i) × (i < length l.places)) (drop l.first l.way);
}
