use Rattle.std.proofs.Common.{◌≡◌, ◌+◌, List, ◌++◌, take, sym, ap, ◌∙◌}
use Rattle.std.specs.Prelude.{codes, option_map}
use Rattle.dt_trees.specs.Placed.{path_at, reading_of}
use Rattle.dt_resolve_model.specs.Answers.{Answer, answer, ◌>>=◌}
use Rattle.dt_resolve_model.specs.World.{Quad, quads_of, tree_world, value_of_bytes}
use Rattle.dt_resolve_model.specs.Interrupts.{MapRow, first_match, interrupt_row_cells, is_ragged, mask_of}
use Rattle.dt_irq.specs.Cells.{quads, numbers_of}
use Rattle.dt_irq.specs.Seen.{interrupt_in}
use Rattle.dt_irq.proofs.Figures.{both_are}
use Rattle.dt_irq.proofs.MapSteps.{by_row, led_by}
use Rattle.dt_resolve_model.proofs.Told.{told_fault}
use Rattle.dt_irq.proofs.hops.led.Goals as goal

pub returns-in_err-row-clause-is : goal.returns-in_err-row-clause-is
returns-in_err-row-clause-is g c =
    let t = g.V.TreeView.tree c.args.view.now in
    let w = tree_world (reading_of t) in
    let at = c.args.at.now in
    let mask = quads_of c.in_ok-mask.mask.now in
    let width = c.args.address + c.args.specifier in
    let match : List Quad → Answer MapRow = λ key. first_match w (interrupt_row_cells w) (is_ragged (value_of_bytes c.args.map.now)) width key mask 0 (quads_of c.args.map.now) in
    let key : quads c.as_slice.result.now ≡ take c.args.address (quads_of at.unit.now) ++ quads_of at.specifier.now =
    ap quads (c.as_slice.ensures.value ∙ c.append-2.ensures ∙ ap (λ ns. ns ++ numbers_of at.specifier.now) (c.append.ensures ∙ ap (λ ns. ns ++ numbers_of c.first_cells.result.now) c.new-key.ensures))
    ∙ both_are c.first_cells.result.now at.specifier.now
    ∙ ap (λ qs. qs ++ quads_of at.specifier.now) c.first_cells.ensures.cells in
    let masked : (w.value (path_at t at.node) (codes "interrupt-map-mask") >>= mask_of width) ≡ answer mask = ap (λ o. mask_of width (option_map value_of_bytes o)) (sym c.value.ensures) ∙ sym c.in_ok-mask.ensures.is in
    told_fault c.from_residual-in_err-row.result c.in_err-row.field-0.0 (interrupt_in t) c.from_residual-in_err-row.ensures.1
    ∙ ap by_row c.in_err-row.ensures.is
    ∙ ap (λ k. by_row (match k)) key
    ∙ sym (led_by w (path_at t at.node) (quads_of at.unit.now) (quads_of at.specifier.now) mask (value_of_bytes c.args.map.now) c.args.address c.args.specifier masked)

pub returns-clause-is : goal.returns-clause-is
returns-clause-is g c =
    let t = g.V.TreeView.tree c.args.view.now in
    let w = tree_world (reading_of t) in
    let at = c.args.at.now in
    let mask = quads_of c.in_ok-mask.mask.now in
    let width = c.args.address + c.args.specifier in
    let match : List Quad → Answer MapRow = λ key. first_match w (interrupt_row_cells w) (is_ragged (value_of_bytes c.args.map.now)) width key mask 0 (quads_of c.args.map.now) in
    let key : quads c.as_slice.result.now ≡ take c.args.address (quads_of at.unit.now) ++ quads_of at.specifier.now =
    ap quads (c.as_slice.ensures.value ∙ c.append-2.ensures ∙ ap (λ ns. ns ++ numbers_of at.specifier.now) (c.append.ensures ∙ ap (λ ns. ns ++ numbers_of c.first_cells.result.now) c.new-key.ensures))
    ∙ both_are c.first_cells.result.now at.specifier.now
    ∙ ap (λ qs. qs ++ quads_of at.specifier.now) c.first_cells.ensures.cells in
    let masked : (w.value (path_at t at.node) (codes "interrupt-map-mask") >>= mask_of width) ≡ answer mask = ap (λ o. mask_of width (option_map value_of_bytes o)) (sym c.value.ensures) ∙ sym c.in_ok-mask.ensures.is in
    ap by_row c.in_ok-row.ensures.is
    ∙ ap (λ k. by_row (match k)) key
    ∙ sym (led_by w (path_at t at.node) (quads_of at.unit.now) (quads_of at.specifier.now) mask (value_of_bytes c.args.map.now) c.args.address c.args.specifier masked)
