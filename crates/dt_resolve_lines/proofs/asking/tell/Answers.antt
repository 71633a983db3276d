use Rattle.std.proofs.Common.{◌≡◌, List, ℕ, sym, subst}
use Rattle.std.specs.Prelude.{OnOk, IfErr}
use Rattle.dt_names.specs.Sink.{Takes}
use Rattle.dt_trees.specs.Placed.{path_at, reading_of}
use Rattle.dt_resolve_model.specs.Answers.{answer}
use Rattle.dt_resolve_model.specs.World.{tree_world}
use Rattle.dt_resolve_lines.specs.Asked.{answer_words, WhyUntold}
use Rattle.dt_resolve_lines.proofs.asking.tell.Goals as goal

pub returns-in-Specifier-clause-written : goal.returns-in-Specifier-clause-written
returns-in-Specifier-clause-written g c =
    let t = g.V.TreeView.tree c.args.view.now in
    let old = g.S.Sink.taken c.args.out.now in
    let new = g.S.Sink.taken c.tell_specifier.new.out in
    subst (λ q. OnOk c.tell_specifier.result ((line : List ℕ) × (answer_words q (tree_world (reading_of t)) (path_at t c.args.node) ≡ answer line) × Takes line old new)) (sym c.in-Specifier.is) c.tell_specifier.ensures.written

pub returns-in-Specifier-clause-refused : goal.returns-in-Specifier-clause-refused
returns-in-Specifier-clause-refused g c =
    let t = g.V.TreeView.tree c.args.view.now in
    let old = g.S.Sink.taken c.args.out.now in
    let new = g.S.Sink.taken c.tell_specifier.new.out in
    subst (λ q. IfErr c.tell_specifier.result (WhyUntold (answer_words q (tree_world (reading_of t)) (path_at t c.args.node)) old new)) (sym c.in-Specifier.is) c.tell_specifier.ensures.refused
