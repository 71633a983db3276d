-- The nodes before this one refer to no node but marked ones, where they are marked.
use Rattle.std.proofs.Common.{map}
use Rattle.dt_source_named_tree.specs.Said.{node_said}
use Rattle.dt_source_fragments.proofs.Marks.{AreContainedBefore}
use Rattle.dt_source_fragments.proofs.brought.are_contained.Given as goal

abbrev pub invariant-loop-number : goal.invariant-loop-number
invariant-loop-number l = AreContainedBefore (map node_said l.nodes) l.marks l.number
