use Rattle.std.proofs.Common.{◌++◌, codes, ap}
use Rattle.dt_model.specs.Path.{path_text}
use Rattle.dt_trees.specs.Placed.{path_at}
use Rattle.dt_text_writer.proofs.Writing.{exits_first, puts_last, cut_last}
use Rattle.dt_names.specs.Sink.{joined}
use Rattle.dt_resolve_lines.specs.Lines.{index_words}
use Rattle.dt_resolve_lines.proofs.WordTexts.{around_text}
use Rattle.std.proofs.Common.{refl}
use Rattle.dt_resolve_lines.proofs.words.put_place.Goals as goal

pub returns-in_err-put_node_path-clause-refused : goal.returns-in_err-put_node_path-clause-refused
returns-in_err-put_node_path-clause-refused g c = exits_first _ _ _ _ (index_words c.args.index) c.from_residual.ensures.1 refl c.in_err-put_node_path.ensures.refused

pub returns-clause-written : goal.returns-clause-written
returns-clause-written g c =
    let p = path_text (path_at (g.V.TreeView.tree c.args.view.now) c.args.node) in
    let whole = ap (λ l. p ++ l) (around_text c.args.index c.format-index.result.now (codes " ") (codes " ") (joined c.pieces_around.result) c.format-index.ensures.text c.pieces_around.ensures) in
    puts_last _ _ _ _ whole c.in_ok-put_node_path.ensures.written c.put_pieces.ensures.written

pub returns-clause-refused : goal.returns-clause-refused
returns-clause-refused g c =
    let p = path_text (path_at (g.V.TreeView.tree c.args.view.now) c.args.node) in
    let whole = ap (λ l. p ++ l) (around_text c.args.index c.format-index.result.now (codes " ") (codes " ") (joined c.pieces_around.result) c.format-index.ensures.text c.pieces_around.ensures) in
    cut_last _ _ _ _ whole c.in_ok-put_node_path.ensures.written c.put_pieces.ensures.refused
