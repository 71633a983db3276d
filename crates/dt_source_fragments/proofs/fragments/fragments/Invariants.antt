-- The fragments so far, and those of the nodes that are left.
use Rattle.std.proofs.Common.{map}
use Rattle.dt_source_fragments.specs.Fragments.{fragment_said}
use Rattle.dt_source_fragments.proofs.FragmentSteps.{AreSoFar}
use Rattle.dt_source_fragments.proofs.fragments.fragments.Given as goal

abbrev pub invariant-loop-node : goal.invariant-loop-node
invariant-loop-node l = AreSoFar l.nodes (map fragment_said l.fragments.items) l.node-index
