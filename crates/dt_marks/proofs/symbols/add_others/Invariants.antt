-- The nodes that are left give the labels of all.
use Rattle.std.proofs.Common.{◌≡◌, ◌<◌, length, map, drop}
use Rattle.dt_source_named_tree.specs.Said.{node_said}
use Rattle.dt_flat.specs.Planted.{with_properties, MaySetAll}
use Rattle.dt_marks.specs.Paths.{symbols_behind, MayFollow}
use Rattle.dt_marks.proofs.symbols.add_others.Given as goal

abbrev pub invariant-loop-node : goal.invariant-loop-node
invariant-loop-node l = record {
  there : l.symbols < length l.tree.slots;
  follow : MayFollow (length l.path.lengths.items) (map node_said (drop l.node-index l.nodes));
  new : MaySetAll l.tree.slots l.symbols (symbols_behind l.path.value.items l.path.lengths.items (map node_said (drop l.node-index l.nodes)));
  same : record l.tree {
    slots = with_properties l.tree.slots l.symbols
        (symbols_behind l.path.value.items l.path.lengths.items (map node_said (drop l.node-index l.nodes)));
  }
      ≡ record l.fn.tree {
        slots = with_properties l.fn.tree.slots l.symbols
            (symbols_behind l.fn.path.value.items l.fn.path.lengths.items (map node_said l.nodes));
      };
}
