use Rattle.std.proofs.Common.{◌++◌, codes, decimal, take, refl, ap}
use Rattle.dt_model.specs.Path.{path_text}
use Rattle.dt_trees.specs.Placed.{path_at}
use Rattle.dt_text_writer.proofs.Writing.{puts_then, exits_first, exits_at, puts_last, cut_last, turned}
use Rattle.dt_names.specs.Sink.{joined}
use Rattle.dt_resolve_lines.specs.Lines.{cells_words}
use Rattle.dt_resolve_lines.proofs.WordTexts.{around_text}
use Rattle.dt_resolve_lines.proofs.words.put_route.Goals as goal

pub returns-in_err-put_node_path-clause-refused : goal.returns-in_err-put_node_path-clause-refused
returns-in_err-put_node_path-clause-refused g c =
    let r = c.args.route.now in
    exits_first _ _ _ _ (cells_words (take r.len r.cells) ++ (codes " hops " ++ (decimal r.hops ++ codes "\n"))) c.from_residual.ensures.1 refl c.in_err-put_node_path.ensures.refused

pub returns-in_err-put_cells-clause-refused : goal.returns-in_err-put_cells-clause-refused
returns-in_err-put_cells-clause-refused g c =
    let r = c.args.route.now in
    exits_at _ _ _ _ (codes " hops " ++ (decimal r.hops ++ codes "\n")) c.from_residual-in_err-put_cells.ensures.1 refl c.in_ok-put_node_path.ensures.written c.in_err-put_cells.ensures.refused

pub returns-clause-written : goal.returns-clause-written
returns-clause-written g c =
    let r = c.args.route.now in
    let p = path_text (path_at (g.V.TreeView.tree c.args.view.now) r.controller) in
    let cells = cells_words (take r.len r.cells) in
    let whole = ap (λ l. p ++ (cells ++ l)) (around_text r.hops c.format-hops.result.now (codes " hops ") (codes "\n") (joined c.pieces_around.result) c.format-hops.ensures.text c.pieces_around.ensures) in
    puts_last _ _ _ _ (turned p cells (joined c.pieces_around.result) whole) (puts_then c.in_ok-put_node_path.ensures.written c.in_ok-put_cells.ensures.written) c.put_pieces.ensures.written

pub returns-clause-refused : goal.returns-clause-refused
returns-clause-refused g c =
    let r = c.args.route.now in
    let p = path_text (path_at (g.V.TreeView.tree c.args.view.now) r.controller) in
    let cells = cells_words (take r.len r.cells) in
    let whole = ap (λ l. p ++ (cells ++ l)) (around_text r.hops c.format-hops.result.now (codes " hops ") (codes "\n") (joined c.pieces_around.result) c.format-hops.ensures.text c.pieces_around.ensures) in
    cut_last _ _ _ _ (turned p cells (joined c.pieces_around.result) whole) (puts_then c.in_ok-put_node_path.ensures.written c.in_ok-put_cells.ensures.written) c.put_pieces.ensures.refused
