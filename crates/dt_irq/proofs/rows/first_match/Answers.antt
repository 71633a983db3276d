use Rattle.std.proofs.Common.{◌≡◌, ◌-◌, ◌*◌, ◌%◌, ◌==◌, not, length, sym, ap, ◌∙◌, arith}
use Rattle.std.proofs.lemmas.List.{length-drop}
use Rattle.dt_trees.specs.Placed.{reading_of}
use Rattle.dt_resolve_model.specs.Answers.{answer, refused}
use Rattle.dt_resolve_model.specs.World.{quads_of, tree_world, value_of_bytes}
use Rattle.dt_resolve_model.specs.Interrupts.{first_match, is_ragged, map_row}
use Rattle.dt_irq.specs.Cells.{quads}
use Rattle.dt_irq.specs.Seen.{row_in}
use Rattle.dt_irq.specs.Spaces.{widths_in}
use Rattle.dt_irq.proofs.Matching.{key_matches, match_is, match_is_later, match_is_refused, some_cells}
use Rattle.dt_resolve_model.proofs.Told.{told_fault}
use Rattle.dt_irq.proofs.rows.first_match.Goals as goal

pub returns-in_err-row-clause-is : goal.returns-in_err-row-clause-is
returns-in_err-row-clause-is g c =
    let t = g.V.TreeView.tree c.args.view.now in
    let w = tree_world (reading_of t) in
    let rest = c.loop-rest.rest.now in
    let e = c.in_err-row.field-0.0 in
    let row : map_row w (widths_in c.args.space w) c.args.width (quads_of rest) ≡ refused e = sym c.in_err-row.ensures.is in
    told_fault c.from_residual.result e (row_in t) c.from_residual.ensures.1
    ∙ sym (match_is_refused w (widths_in c.args.space w) (is_ragged (value_of_bytes c.args.map.now)) c.args.width (quads c.args.key.now) (quads_of c.args.mask.now) (quads_of rest) e (some_cells rest c.loop-rest-test.true) row)
    ∙ c.loop-rest.invariant.left

pub returns-then-are_equal-clause-is : goal.returns-then-are_equal-clause-is
returns-then-are_equal-clause-is g c =
    let t = g.V.TreeView.tree c.args.view.now in
    let w = tree_world (reading_of t) in
    let rest = c.loop-rest.rest.now in
    let match = key_matches c.in_ok-row.row.compared.now c.args.key.now c.args.mask.now ∙ ap (λ b. answer b) (sym c.are_equal.ensures ∙ c.if-are_equal.true) in
    sym (match_is w (widths_in c.args.space w) (is_ragged (value_of_bytes c.args.map.now)) c.args.width (quads c.args.key.now) (quads_of c.args.mask.now) (quads_of rest) (row_in t c.in_ok-row.row) (some_cells rest c.loop-rest-test.true) (sym c.in_ok-row.ensures.is) match)
    ∙ c.loop-rest.invariant.left

pub loop-rest-preserved : goal.loop-rest-preserved
loop-rest-preserved g c =
    let t = g.V.TreeView.tree c.args.view.now in
    let w = tree_world (reading_of t) in
    let rest = c.loop-rest.rest.now in
    let behind = c.cells_after-rest.result.now in
    let match = key_matches c.in_ok-row.row.compared.now c.args.key.now c.args.mask.now ∙ ap (λ b. answer b) (sym c.are_equal.ensures ∙ c.if-are_equal.false) in
    let within = c.in_ok-row.ensures.size in
    let long : length behind ≡ length rest - 4 * c.in_ok-row.row.size = ap length c.cells_after-rest.ensures.bytes ∙ length-drop (4 * c.in_ok-row.row.size) rest in
    record {
      ragged = ap (λ n. not (n == 0)) (let e : length behind % 4 ≡ length rest % 4 = omega arith in e) ∙ c.loop-rest.invariant.ragged;
      left =
          ap (first_match w (widths_in c.args.space w) (is_ragged (value_of_bytes c.args.map.now)) c.args.width (quads c.args.key.now) (quads_of c.args.mask.now) 0) c.cells_after-rest.ensures.cells
          ∙ sym (match_is_later w (widths_in c.args.space w) (is_ragged (value_of_bytes c.args.map.now)) c.args.width (quads c.args.key.now) (quads_of c.args.mask.now) (quads_of rest) (row_in t c.in_ok-row.row) (some_cells rest c.loop-rest-test.true) (sym c.in_ok-row.ensures.is) match c.in_ok-row.ensures.some)
          ∙ c.loop-rest.invariant.left;
    }
