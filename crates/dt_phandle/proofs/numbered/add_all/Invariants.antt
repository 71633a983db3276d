-- The nodes that are left make what all make.
use Rattle.std.proofs.Common.{◌≡◌, map, drop}
use Rattle.dt_source_named_tree.specs.Said.{node_said}
use Rattle.dt_phandle.specs.Growth.{grown, MayGrow}
use Rattle.dt_phandle.proofs.numbered.add_all.Given as goal

abbrev pub invariant-loop-node : goal.invariant-loop-node
invariant-loop-node l = record {
  may : MayGrow l.numbering l.tree.slots (map node_said (drop l.node-index l.nodes));
  same : record l.tree { slots = grown l.numbering l.tree.slots (map node_said (drop l.node-index l.nodes)) }
      ≡ record l.fn.tree { slots = grown l.numbering l.fn.tree.slots (map node_said l.nodes) };
}
