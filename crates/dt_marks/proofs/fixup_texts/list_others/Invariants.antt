-- The nodes that are left give the table all.
use Rattle.std.proofs.Common.{◌≡◌, length, map, drop}
use Rattle.dt_source_named_tree.specs.Said.{node_said}
use Rattle.dt_marks.specs.Paths.{MayFollow}
use Rattle.dt_marks.specs.Waiting.{with_texts, texts_behind}
use Rattle.dt_marks.proofs.fixup_texts.list_others.Given as goal

abbrev pub invariant-loop-node : goal.invariant-loop-node
invariant-loop-node l = record {
  follow : MayFollow (length l.path.lengths.items) (map node_said (drop l.node-index l.nodes));
  same : with_texts l.table (texts_behind l.path.value.items l.path.lengths.items (map node_said (drop l.node-index l.nodes)))
      ≡ with_texts l.fn.table (texts_behind l.fn.path.value.items l.fn.path.lengths.items (map node_said l.nodes));
}
