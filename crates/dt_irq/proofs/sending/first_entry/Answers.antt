use Rattle.std.proofs.Common.{◌≡◌, ◌-◌, ◌*◌, ◌%◌, not, ◌==◌, ◌∷◌, length, sym, ap, ◌∙◌, arith}
use Rattle.std.proofs.lemmas.List.{length-drop}
use Rattle.dt_names.specs.declared.fault.FaultKind.TheVariants.{BadCells}
use Rattle.dt_trees.specs.Placed.{path_at, reading_of}
use Rattle.dt_resolve_model.specs.World.{figure, quads_of, tree_world, value_of_bytes}
use Rattle.dt_resolve_model.specs.Interrupts.{is_ragged}
use Rattle.dt_resolve_model.specs.Answers.{answer}
use Rattle.dt_resolve_model.proofs.Told.{refuses}
use Rattle.dt_resolve_model.proofs.QuadsOfBytes.{quad_count}
use Rattle.dt_irq.specs.Spaces.{count_in}
use Rattle.dt_irq.proofs.Listing.{entry_is_cut, entry_is}
use Rattle.dt_irq.proofs.sending.first_entry.Goals as goal

pub returns-then-cells-count-clause-is : goal.returns-then-cells-count-clause-is
returns-then-cells-count-clause-is g c =
    let t = g.V.TreeView.tree c.args.view.now in
    let w = tree_world (reading_of t) in
    let cells = c.cells_after-cells.result.now in
    let count = quad_count cells in
    refuses c.of.result BadCells c.of.ensures.kind c.of.ensures.at
    ∙ sym (entry_is_cut w (count_in c.args.space w) (is_ragged (value_of_bytes c.args.list.now)) (quads_of c.args.list.now) (figure c.cell_at.result) (quads_of cells) (path_at t c.in_ok-node.node) c.in_ok-count.count
    (c.cell_at.ensures ∙ ap (λ qs. figure c.cell_at.result ∷ qs) (sym c.cells_after-cells.ensures.cells)) (sym c.in_ok-node.ensures.is) (sym c.in_ok-count.ensures.is) (omega (arith, count)))

pub returns-clause-is : goal.returns-clause-is
returns-clause-is g c =
    let t = g.V.TreeView.tree c.args.view.now in
    let w = tree_world (reading_of t) in
    let cells = c.cells_after-cells.result.now in
    let count = quad_count cells in
    let specifier = c.first_cells-specifier.ensures.cells in
    let rest = c.cells_after.ensures.cells in
    (λ i. answer (record { sent = record { node = path_at t c.in_ok-node.node; specifier = specifier i }; rest = rest i }))
    ∙ sym (entry_is w (count_in c.args.space w) (is_ragged (value_of_bytes c.args.list.now)) (quads_of c.args.list.now) (figure c.cell_at.result) (quads_of cells) (path_at t c.in_ok-node.node) c.in_ok-count.count
    (c.cell_at.ensures ∙ ap (λ qs. figure c.cell_at.result ∷ qs) (sym c.cells_after-cells.ensures.cells)) (sym c.in_ok-node.ensures.is) (sym c.in_ok-count.ensures.is) (omega (arith, count)))

pub returns-clause-ragged : goal.returns-clause-ragged
returns-clause-ragged g c =
    let list = c.args.list.now in
    let cells = c.cells_after-cells.result.now in
    let one : length cells ≡ length list - 4 = ap length c.cells_after-cells.ensures.bytes ∙ length-drop (4 * 1) list in
    let two : length c.cells_after.result.now ≡ length cells - 4 * c.in_ok-count.count = ap length c.cells_after.ensures.bytes ∙ length-drop (4 * c.in_ok-count.count) cells in
    ap (λ n. not (n == 0)) (let e : length c.cells_after.result.now % 4 ≡ length list % 4 = omega arith in e)

pub returns-clause-shorter : goal.returns-clause-shorter
returns-clause-shorter g c =
    let list = c.args.list.now in
    let cells = c.cells_after-cells.result.now in
    let one : length cells ≡ length list - 4 = ap length c.cells_after-cells.ensures.bytes ∙ length-drop (4 * 1) list in
    let two : length c.cells_after.result.now ≡ length cells - 4 * c.in_ok-count.count = ap length c.cells_after.ensures.bytes ∙ length-drop (4 * c.in_ok-count.count) cells in
    omega (arith, c.if-list-lt4.false)
