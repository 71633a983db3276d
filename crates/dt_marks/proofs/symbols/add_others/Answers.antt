use Rattle.std.proofs.Common.{◌+◌, length, map, drop, Bor, arith, ◌∙◌, subst}
use Rattle.dt_model.specs.Names.{Name}
use Rattle.dt_flat.specs.Planted.{MaySetAll}
use Rattle.dt_flat.proofs.Plantable.{may_set_parts}
use Rattle.dt_source_named_tree.specs.Said.{node_said}
use Rattle.dt_marks.specs.Paths.{text_behind, label_property, symbols_behind}
use Rattle.dt_marks.proofs.Setting.{still_there, both_set, both_new, next_node, node_turn, follow_turn}
use Rattle.dt_marks.proofs.symbols.add_others.Goals as goal

pub loop-node-preserved : goal.loop-node-preserved
loop-node-preserved c =
    let nodes = c.args.nodes.now in
    let i = c.loop-node.node-index in
    let n = c.node-item.result in
    let rest = drop (i + 1) nodes in
    let next = next_node nodes i n (omega arith) c.node-item.is in
    let old = c.loop-node.path in
    let new = c.enter.new.self in
    let path = c.deref-in-loop-node.result.now in
    let labels = c.deref.result.now in
    let own = map (label_property path) (map (λ (b : Bor Name). b.now) labels) in
    let text = text_behind old.value.items old.lengths.items n.parent c.as_slice.result.now in
    let parts = node_turn (drop i nodes) rest n c.as_slice.result.now old.value.items old.lengths.items new.value.items new.lengths.items path labels next c.as_slice.ensures.value
    c.in_ok-enter.ensures.value c.in_ok-enter.ensures.lengths c.deref-in-loop-node.ensures.value c.deref.ensures.value in
    record {
      there = still_there c.loop-node.tree c.add_labels.new.tree c.args.symbols own c.loop-node.invariant.there c.in_ok-add_labels.ensures.tree;
      follow = follow_turn (drop i nodes) rest n old.lengths.items new.lengths.items (length text) next c.in_ok-enter.ensures.lengths c.loop-node.invariant.follow;
      new = both_new c.loop-node.tree c.add_labels.new.tree c.args.symbols own (symbols_behind new.value.items new.lengths.items (map node_said rest))
          (symbols_behind old.value.items old.lengths.items (map node_said (drop i nodes))) parts c.loop-node.invariant.new c.in_ok-add_labels.ensures.tree;
      same = both_set c.loop-node.tree c.add_labels.new.tree c.args.symbols own (symbols_behind new.value.items new.lengths.items (map node_said rest))
          (symbols_behind old.value.items old.lengths.items (map node_said (drop i nodes))) parts c.in_ok-add_labels.ensures.tree
          ∙ c.loop-node.invariant.same;
    }

pub add_labels-requires-clause-new : goal.add_labels-requires-clause-new
add_labels-requires-clause-new c =
    let nodes = c.args.nodes.now in
    let i = c.loop-node.node-index in
    let n = c.node-item.result in
    let rest = drop (i + 1) nodes in
    let old = c.loop-node.path in
    let new = c.enter.new.self in
    let path = c.deref-in-loop-node.result.now in
    let labels = c.deref.result.now in
    let own = map (label_property path) (map (λ (b : Bor Name). b.now) labels) in
    let parts = node_turn (drop i nodes) rest n c.as_slice.result.now old.value.items old.lengths.items new.value.items new.lengths.items path labels (next_node nodes i n (omega arith) c.node-item.is) c.as_slice.ensures.value
    c.in_ok-enter.ensures.value c.in_ok-enter.ensures.lengths c.deref-in-loop-node.ensures.value c.deref.ensures.value in
    (may_set_parts c.loop-node.tree.slots c.args.symbols own (symbols_behind new.value.items new.lengths.items (map node_said rest)) (subst (MaySetAll c.loop-node.tree.slots c.args.symbols) parts c.loop-node.invariant.new)).0
