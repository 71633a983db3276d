-- The nodes before this one are marked, or not.
use Rattle.dt_source_named_tree.specs.Said.{node_said}
use Rattle.std.proofs.Common.{map}
use Rattle.dt_source_fragments.proofs.Marks.{AreMarkedBefore}
use Rattle.dt_source_fragments.proofs.brought.brought.Given as goal

abbrev pub invariant-loop-node : goal.invariant-loop-node
invariant-loop-node l = AreMarkedBefore (map node_said l.nodes) l.marks.items l.node-index
