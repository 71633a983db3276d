use Rattle.std.proofs.Common.{◌≡◌, ◌-◌, ◌<◌, suc, length, arith}
use Rattle.dt_marks.proofs.Marks.{parent_before, mark_turn}
use Rattle.dt_marks.proofs.mirror.mark.Goals as goal

pub mark_node-requires-clause-parent : goal.mark_node-requires-clause-parent
mark_node-requires-clause-parent c =
    let i = c.loop-i.i - 1 in
    let lt : i < length c.args.others.now = omega arith in
    let before = parent_before 1 c.args.others.now i c.index-others-i.result lt c.index-others-i.is c.requires.follow in
    omega (arith, before, c.loop-i.invariant.size)

pub loop-i-preserved : goal.loop-i-preserved
loop-i-preserved c =
    let i = c.loop-i.i - 1 in
    let lt : i < length c.args.others.now = omega arith in
    let next : c.loop-i.i ≡ suc i = omega arith in
    record {
      size = omega (arith, c.loop-i.invariant.size);
      each = mark_turn c.args.others.now i c.loop-i.i c.index-others-i.result c.loop-i.needed c.mark_node.new.needed c.holds_cells.result lt next c.index-others-i.is
          c.holds_cells.ensures c.loop-i.invariant.each c.mark_node.ensures;
    }
