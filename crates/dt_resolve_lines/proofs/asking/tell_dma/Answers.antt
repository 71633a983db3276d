use Rattle.std.proofs.Common.{sym, ap}
use Rattle.dt_trees.specs.Placed.{path_at, reading_of}
use Rattle.dt_resolve_model.specs.Answers.{Answer, answer, ◌>>=◌}
use Rattle.dt_resolve_model.specs.World.{tree_world}
use Rattle.dt_resolve_model.specs.declared.regions.Region.{Region}
use Rattle.dt_resolve_lines.specs.Asked.{dma_words}
use Rattle.dt_resolve_lines.specs.Lines.{region_words}
use Rattle.dt_resolve_lines.proofs.Questions.{untold}
use Rattle.dt_resolve_lines.proofs.asking.tell_dma.Goals as goal

pub returns-clause-refused : goal.returns-clause-refused
returns-clause-refused g c =
    let t = g.V.TreeView.tree c.args.view.now in
    untold _ _ (dma_words (tree_world (reading_of t)) (path_at t c.args.node) c.args.address c.args.size) (region_words c.in_ok-region.region) c.tell_region.result
    (ap (λ (x : Answer Region). x >>= λ r. answer (region_words r)) (sym c.in_ok-region.ensures)) c.tell_region.ensures.refused
