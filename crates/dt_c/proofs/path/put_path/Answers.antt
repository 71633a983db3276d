use Rattle.std.proofs.Common.{ap, ◌∙◌, sym, length, arith}
use Rattle.dt_model.specs.Path.{path_text}
use Rattle.dt_trees.specs.Placed.{path_at}
use Rattle.dt_view.specs.Ways.{names_text}
use Rattle.dt_c.proofs.Texts.{is_below, turned}
use Rattle.dt_c.proofs.path.put_path.Goals as goal

pub returns-in_err-end : goal.returns-in_err-end
returns-in_err-end c =
    let t = c.args.blob.now in
    let text = is_below t c.args.node c.innermost.result c.put_nodes_above.new.above c.if-is_none.ensures c.innermost.ensures c.put_nodes_above.ensures in
    let room = c.in_err-end.ensures.0 in
    rw c.from_residual.ensures (omega (arith, room, ap length text))

pub returns : goal.returns
returns c =
    let t = c.args.blob.now in
    let text = is_below t c.args.node c.innermost.result c.put_nodes_above.new.above c.if-is_none.ensures c.innermost.ensures c.put_nodes_above.ensures in
    let (size, fits, is) = c.in_ok-end.ensures in
    (size ∙ sym (ap length text), fits, turned (path_text (path_at t c.args.node)) (names_text (path_at t c.args.node)) c.args.out.now c.put_names.new.out c.turn_front.new.out c.in_ok-end.end text size is c.turn_front.ensures)
