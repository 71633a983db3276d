use Rattle.std.proofs.Common.{ap}
use Rattle.dt_trees.specs.Placed.{path_at}
use Rattle.dt_resolve_model.specs.Answers.{told}
use Rattle.dt_text_writer.proofs.Writing.{exits_first, puts_last, cut_last}
use Rattle.dt_resolve_lines.specs.Lines.{line, region_words}
use Rattle.dt_resolve_lines.proofs.Told.{line_begins}
use Rattle.dt_resolve_lines.proofs.regions.put_line.Goals as goal

pub returns-in_err-put_place-clause-refused : goal.returns-in_err-put_place-clause-refused
returns-in_err-put_place-clause-refused g c =
    let p = path_at (g.V.TreeView.tree c.args.view.now) c.args.node in
    let (rest, begins) = line_begins region_words p c.args.index c.args.region.now in
    exits_first _ _ _ _ rest c.from_residual.ensures.1 begins c.in_err-put_place.ensures.refused

pub returns-in-Ok-clause-written : goal.returns-in-Ok-clause-written
returns-in-Ok-clause-written g c =
    let p = path_at (g.V.TreeView.tree c.args.view.now) c.args.node in
    puts_last _ _ _ _ (ap (λ r. line region_words p c.args.index (told r)) c.in-Ok.is) c.in_ok-put_place.ensures.written c.put_region.ensures.written

pub returns-in-Ok-clause-refused : goal.returns-in-Ok-clause-refused
returns-in-Ok-clause-refused g c =
    let p = path_at (g.V.TreeView.tree c.args.view.now) c.args.node in
    cut_last _ _ _ _ (ap (λ r. line region_words p c.args.index (told r)) c.in-Ok.is) c.in_ok-put_place.ensures.written c.put_region.ensures.refused

pub returns-in-Err-clause-written : goal.returns-in-Err-clause-written
returns-in-Err-clause-written g c =
    let p = path_at (g.V.TreeView.tree c.args.view.now) c.args.node in
    puts_last _ _ _ _ (ap (λ r. line region_words p c.args.index (told r)) c.in-Err.is) c.in_ok-put_place.ensures.written c.put_fault.ensures.written

pub returns-in-Err-clause-refused : goal.returns-in-Err-clause-refused
returns-in-Err-clause-refused g c =
    let p = path_at (g.V.TreeView.tree c.args.view.now) c.args.node in
    cut_last _ _ _ _ (ap (λ r. line region_words p c.args.index (told r)) c.in-Err.is) c.in_ok-put_place.ensures.written c.put_fault.ensures.refused
