-- The node that is looked at stands above the one that was asked for, as many names up as were counted.
use Rattle.std.proofs.Common.{◌≡◌, ◌<◌, ◌≤◌, ◌+◌, length}
use Rattle.dt_model.specs.Event.{Stack}
use Rattle.dt_source_growing.specs.Grown.{StandsUnder}
use Rattle.dt_source_growing.proofs.growing.Growing.depth.Given as goal

abbrev pub invariant-loop-at : goal.invariant-loop-at
invariant-loop-at l = record {
  inside : l.at < length l.self.nodes.items;
  low : l.depth + l.at ≤ l.node;
  to : (p : Stack) → StandsUnder l.self.nodes.items p l.at → (q : Stack) × StandsUnder l.self.nodes.items q l.node × (length q ≡ length p + l.depth);
  from : (p : Stack) → StandsUnder l.self.nodes.items p l.node → (q : Stack) × StandsUnder l.self.nodes.items q l.at;
}

abbrev pub decreases-loop-at : goal.decreases-loop-at
decreases-loop-at l = l.at
