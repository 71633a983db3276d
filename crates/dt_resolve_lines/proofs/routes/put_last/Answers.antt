use Rattle.std.proofs.Common.{sym, ◌∙◌}
use Rattle.dt_trees.specs.Placed.{path_at}
use Rattle.dt_resolve_model.specs.Answers.{refused}
use Rattle.dt_text_writer.proofs.Writing.{exits_first, puts_last, cut_last}
use Rattle.dt_resolve_lines.specs.AllLines.{is_no_interrupts}
use Rattle.dt_resolve_lines.specs.Lines.{fault_words, line, route_words}
use Rattle.dt_resolve_lines.proofs.Told.{not_left_out}
use Rattle.dt_resolve_lines.proofs.routes.put_last.Goals as goal

pub returns-clause-written : goal.returns-clause-written
returns-clause-written g c =
    let whole = line route_words (path_at (g.V.TreeView.tree c.args.view.now) c.args.node) c.args.index (refused c.args.fault) in
    puts_last _ _ _ _ (not_left_out (is_no_interrupts c.args.fault.kind) whole (sym c.is_behind.ensures ∙ c.if-is_behind.false)) c.in_ok-put_place.ensures.written c.put_fault.ensures.written

pub returns-clause-refused : goal.returns-clause-refused
returns-clause-refused g c =
    let whole = line route_words (path_at (g.V.TreeView.tree c.args.view.now) c.args.node) c.args.index (refused c.args.fault) in
    cut_last _ _ _ _ (not_left_out (is_no_interrupts c.args.fault.kind) whole (sym c.is_behind.ensures ∙ c.if-is_behind.false)) c.in_ok-put_place.ensures.written c.put_fault.ensures.refused

pub returns-in_err-put_place-clause-refused : goal.returns-in_err-put_place-clause-refused
returns-in_err-put_place-clause-refused g c =
    let p = path_at (g.V.TreeView.tree c.args.view.now) c.args.node in
    let whole = line route_words p c.args.index (refused c.args.fault) in
    exits_first _ _ _ _ (fault_words c.args.fault) c.from_residual.ensures.1 (not_left_out (is_no_interrupts c.args.fault.kind) whole (sym c.is_behind.ensures ∙ c.if-is_behind.false)) c.in_err-put_place.ensures.refused
