use Rattle.std.proofs.Common.{◌≡◌, ◌+◌, ◌∷◌, take, drop, length, sym, ap, ◌∙◌, arith}
use Rattle.std.proofs.lemmas.List.{length-drop, length-take-le}
use Rattle.dt_names.specs.declared.fault.FaultKind.TheVariants.{BadMap}
use Rattle.dt_trees.specs.Placed.{path_at, reading_of}
use Rattle.dt_resolve_model.specs.World.{figure, quads_of, tree_world}
use Rattle.dt_resolve_model.specs.Answers.{answer}
use Rattle.dt_resolve_model.proofs.Told.{refuses}
use Rattle.dt_resolve_model.proofs.QuadsOfBytes.{quad_count}
use Rattle.dt_irq.specs.Seen.{row_cells_in}
use Rattle.dt_irq.specs.Spaces.{widths_in}
use Rattle.dt_irq.proofs.Listing.{no_cells, row_is_short, row_is_cut, row_is}
use Rattle.dt_irq.proofs.rows.map_row.Goals as goal

pub returns-then-cells-width-clause-is : goal.returns-then-cells-width-clause-is
returns-then-cells-width-clause-is g c =
    let cells = c.args.cells.now in
    let count = quad_count cells in
    refuses c.of.result BadMap c.of.ensures.kind c.of.ensures.at
    ∙ sym (row_is_short (tree_world (reading_of (g.V.TreeView.tree c.args.view.now))) (widths_in c.args.space (tree_world (reading_of (g.V.TreeView.tree c.args.view.now)))) c.args.width (quads_of cells) (no_cells (drop c.args.width (quads_of cells)) (omega (arith, length-drop c.args.width (quads_of cells), count))))

pub returns-then-behind-own-clause-is : goal.returns-then-behind-own-clause-is
returns-then-behind-own-clause-is g c =
    let t = g.V.TreeView.tree c.args.view.now in
    let cells = c.args.cells.now in
    let behind = c.cells_after-behind.result.now in
    let count = quad_count behind in
    refuses c.of-then-behind-own.result BadMap c.of-then-behind-own.ensures.kind c.of-then-behind-own.ensures.at
    ∙ sym (row_is_cut (tree_world (reading_of t)) (widths_in c.args.space (tree_world (reading_of t))) c.args.width (quads_of cells) (figure c.cell_at.result) (quads_of behind) (path_at t c.in_ok-parent.parent) (row_cells_in c.in_ok-own.own)
    (c.cell_at.ensures ∙ ap (λ qs. figure c.cell_at.result ∷ qs) (sym c.cells_after-behind.ensures.cells)) (sym c.in_ok-parent.ensures.is) (sym c.in_ok-own.ensures.is)
    (omega (arith, count)))

pub returns-clause-is : goal.returns-clause-is
returns-clause-is g c =
    let t = g.V.TreeView.tree c.args.view.now in
    let cells = c.args.cells.now in
    let behind = c.cells_after-behind.result.now in
    let count = quad_count behind in
    let all = quad_count cells in
    let long : length (take c.args.width (quads_of cells)) ≡ c.args.width = length-take-le c.args.width (quads_of cells) (omega arith) in
    let first = c.first_cells.ensures.cells in
    let address = c.first_cells-2.ensures.cells in
    let specifier = c.first_cells-3.ensures.cells ∙ ap (take c.in_ok-own.own.specifier) c.cells_after.ensures.cells in
    (λ i. answer (record { compared = first i; parent = path_at t c.in_ok-parent.parent; unit = address i; specifier = specifier i; size = c.args.width + 1 + c.in_ok-own.own.address + c.in_ok-own.own.specifier }))
    ∙ sym (row_is (tree_world (reading_of t)) (widths_in c.args.space (tree_world (reading_of t))) c.args.width (quads_of cells) (figure c.cell_at.result) (quads_of behind) (path_at t c.in_ok-parent.parent) (row_cells_in c.in_ok-own.own)
    (c.cell_at.ensures ∙ ap (λ qs. figure c.cell_at.result ∷ qs) (sym c.cells_after-behind.ensures.cells)) (sym c.in_ok-parent.ensures.is) (sym c.in_ok-own.ensures.is)
    (omega (arith, count)) long)
