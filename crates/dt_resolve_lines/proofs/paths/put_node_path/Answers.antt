use Rattle.std.proofs.Common.{List, ℕ, sym, subst, ◌∙◌}
use Rattle.std.specs.Prelude.{OnOk, IfErr}
use Rattle.dt_trees.specs.Placed.{path_at}
use Rattle.dt_text_writer.specs.Written.{Puts, FailsAt}
use Rattle.dt_view.proofs.PathTexts.{names_are}
use Rattle.dt_resolve_lines.proofs.paths.put_node_path.Goals as goal

pub returns-clause-written : goal.returns-clause-written
returns-clause-written g c =
    let t = g.V.TreeView.tree c.args.view.now in
    let text = c.way_to-way.ensures.text ∙ sym (names_are (path_at t c.args.node) c.in-Some.ensures.2) in
    subst (λ (l : List ℕ). OnOk c.put_way.result (Puts g.S.Sink.taken l c.args.writer.now c.put_way.new.writer)) text c.put_way.ensures.written

pub returns-clause-refused : goal.returns-clause-refused
returns-clause-refused g c =
    let t = g.V.TreeView.tree c.args.view.now in
    let text = c.way_to-way.ensures.text ∙ sym (names_are (path_at t c.args.node) c.in-Some.ensures.2) in
    subst (λ (l : List ℕ). IfErr c.put_way.result (λ fault. FailsAt g.S.Sink.taken fault l c.args.writer.now c.put_way.new.writer)) text c.put_way.ensures.refused
