use Rattle.std.proofs.Common.{◌+◌, length, drop, arith}
use Rattle.dt_marks.specs.Paths.{text_behind}
use Rattle.dt_marks.proofs.Setting.{next_node, follow_turn}
use Rattle.dt_marks.proofs.Listing.{texts_turn}
use Rattle.dt_marks.proofs.fixup_texts.list_others.Goals as goal

pub loop-node-preserved : goal.loop-node-preserved
loop-node-preserved c =
    let nodes = c.args.nodes.now in
    let i = c.loop-node.node-index in
    let n = c.node-item.result in
    let rest = drop (i + 1) nodes in
    let next = next_node nodes i n (omega arith) c.node-item.is in
    let old = c.loop-node.path in
    let new = c.enter.new.self in
    let text = text_behind old.value.items old.lengths.items n.parent c.as_slice.result.now in
    record {
      follow = follow_turn (drop i nodes) rest n old.lengths.items new.lengths.items (length text) next c.in_ok-enter.ensures.lengths c.loop-node.invariant.follow;
      same = texts_turn (drop i nodes) rest n c.as_slice.result.now old.value.items old.lengths.items new.value.items new.lengths.items c.text.result.now c.deref.result.now
          c.loop-node.table c.list_properties.new.table _ next c.as_slice.ensures.value c.in_ok-enter.ensures.value c.in_ok-enter.ensures.lengths (c.text.ensures text c.in_ok-enter.ensures.value)
          c.deref.ensures.value c.in_ok-list_properties.ensures c.loop-node.invariant.same;
    }
