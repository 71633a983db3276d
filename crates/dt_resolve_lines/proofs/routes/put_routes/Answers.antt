use Rattle.std.proofs.Common.{refl}
use Rattle.dt_trees.specs.Placed.{path_at, reading_of}
use Rattle.dt_resolve_model.specs.Answers.{refused}
use Rattle.dt_resolve_lines.specs.AllLines.{routes_told}
use Rattle.dt_resolve_lines.proofs.Going.{going_starts, finish_passes, finish_fails}
use Rattle.dt_resolve_lines.proofs.routes.put_routes.Goals as goal

pub returns-in-Err-clause-written : goal.returns-in-Err-clause-written
returns-in-Err-clause-written g c =
    let t = g.V.TreeView.tree c.args.view.now in
    let told = routes_told (reading_of t) (path_at t c.args.node) in
    finish_passes told (refused c.in-Err.fault) (c.in-Err.ensures.refused 0) (going_starts told _) _ c.put_last.result refl c.put_last.ensures.written

pub returns-in-Err-clause-refused : goal.returns-in-Err-clause-refused
returns-in-Err-clause-refused g c =
    let t = g.V.TreeView.tree c.args.view.now in
    let told = routes_told (reading_of t) (path_at t c.args.node) in
    finish_fails told (refused c.in-Err.fault) (c.in-Err.ensures.refused 0) (going_starts told _) _ c.put_last.result c.put_last.ensures.refused
