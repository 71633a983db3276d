use Rattle.std.proofs.Common.{sym, ap}
use Rattle.dt_trees.specs.Placed.{path_at, reading_of}
use Rattle.dt_resolve_model.specs.Answers.{Answer, answer, ◌>>=◌}
use Rattle.dt_resolve_model.specs.World.{tree_world}
use Rattle.dt_resolve_model.specs.Interrupts.{Route}
use Rattle.dt_irq.specs.Seen.{route_in}
use Rattle.dt_resolve_lines.specs.Asked.{specifier_words}
use Rattle.dt_resolve_lines.specs.Lines.{route_words}
use Rattle.dt_resolve_lines.proofs.Questions.{untold}
use Rattle.dt_resolve_lines.proofs.asking.tell_specifier.Goals as goal

pub returns-clause-refused : goal.returns-clause-refused
returns-clause-refused g c =
    let t = g.V.TreeView.tree c.args.view.now in
    untold _ _ (specifier_words (tree_world (reading_of t)) (path_at t c.args.node) c.args.property.now c.args.kind.now c.args.index) (route_words (route_in t c.in_ok-route.route)) c.tell_route.result
    (ap (λ (x : Answer Route). x >>= λ r. answer (route_words r)) (sym c.in_ok-route.ensures.is)) c.tell_route.ensures.refused
