-- The path so far, with the names of the nodes that are left, leads to the node.
use Rattle.std.proofs.Common.{◌≡◌, ◌<◌, ◌++◌, length, map, drop, Some}
use Rattle.std.specs.List.{AllByRecursion}
use Rattle.dt_flat.specs.Arena.{name_of, node_from}
use Rattle.dt_flat.proofs.ways.path_of.Given as goal

abbrev pub invariant-loop-at : goal.invariant-loop-at
invariant-loop-at l = record {
  leads : node_from l.places 0 (l.path ++ map (name_of l.places) (drop l.at-index l.at-items)) ≡ Some l.node;
  few : length l.path ≡ l.at-index;
  nodes : AllByRecursion (λ i. (0 < i) × (i < length l.places)) (drop l.at-index l.at-items);
}
