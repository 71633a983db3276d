use Rattle.std.proofs.Common.{refl, ap, sym, ◌∙◌, ◌++◌, ◌∷◌, [], map}
use Rattle.std.specs.Int.{to_be_bytes}
use Rattle.dt_model.specs.Source.{one, number_of}
use Rattle.dt_grammar.specs.Unchecked.{label_cell, number_cell, reference_cell, width_of}
use Rattle.dt_grammar.specs.Wanted.{made_cells, SomeCells, bytes_at, size_in, expression_in}
use Rattle.dt_grammar.specs.Descent.{first}
use Rattle.dt_grammar.specs.Faults.{Around, outside, in_elements}
use Rattle.dt_parse.specs.Reading.{IsBroken}
use Rattle.dt_parse.specs.Openings.{cell_opening}
use Rattle.dt_parse.proofs.Leading.{handed_on, goes_on, goes_to_end, goes_stop}
use Rattle.dt_parse.proofs.ReadCells.{cell_label, cell_reference, no_cells_read, label_goes, label_stop, reference_goes, cell_reference_stop, width_stop, number_stop, number_read, number_goes, number_shorter, said_more, nothing_more, element_fits}
use Rattle.dt_parse.proofs.value.cells.Goals as goal

pub returns-in_err-label-in-Label-clause-err : goal.returns-in_err-label-in-Label-clause-err
returns-in_err-label-in-Label-clause-err c =
    let e = c.in_err-label-in-Label.ensures in
    let k = sym c.kind.ensures ∙ cell_label c.kind.result (sym c.cell_opening.ensures ∙ c.in-Label.is) in
    handed_on c.from_residual.result c.in_err-label-in-Label.field-0.0 (λ stop. (a : Around) → IsBroken (in_elements c.args.bits a) SomeCells c.args.cursor.now stop) c.from_residual.ensures.1
    (goes_stop made_cells SomeCells (in_elements c.args.bits) _ _ c.cells.invariant.0 _ c.cells.invariant.1 (label_stop c.args.bits _ _ k e.0 e.1 e.2))

pub cells-preserved-in-Label : goal.cells-preserved-in-Label
cells-preserved-in-Label c =
    let i = c.cells.invariant in
    let k = sym c.kind.ensures ∙ cell_label c.kind.result (sym c.cell_opening.ensures ∙ c.in-Label.is) in (
      i.0 ++ label_cell (bytes_at (first c.cells.cursor)) ∷ [],
      goes_on made_cells SomeCells (in_elements c.args.bits) c.args.cursor.now c.cells.cursor c.advance.new.self i.0 _ i.1 (label_goes c.args.bits _ _ k c.in_ok-label-in-Label.ensures.0 c.advance.ensures),
      said_more c.args.bits c.args.items.now i.0 (label_cell (bytes_at (first c.cells.cursor))) c.cells.items c.cells.items [] i.2 (nothing_more _) refl,
    )

pub returns-in_err-target-in-Reference-clause-err :
    goal.returns-in_err-target-in-Reference-clause-err
returns-in_err-target-in-Reference-clause-err c =
    let t = cell_reference c.kind.result (sym c.cell_opening.ensures ∙ c.in-Reference.is) in
    let k = sym c.kind.ensures ∙ t.1 in
    let e = c.in_err-target-in-Reference.ensures t.0 k in
    handed_on c.from_residual-in_err-target-in-Reference.result c.in_err-target-in-Reference.field-0.0 (λ stop. (a : Around) → IsBroken (in_elements c.args.bits a) SomeCells c.args.cursor.now stop) c.from_residual-in_err-target-in-Reference.ensures.1
    (goes_stop made_cells SomeCells (in_elements c.args.bits) _ _ c.cells.invariant.0 _ c.cells.invariant.1 (cell_reference_stop t.0 c.args.bits _ _ k e.0 e.1 e.2))

pub returns-then-bits-ne-CELL-clause-err : goal.returns-then-bits-ne-CELL-clause-err
returns-then-bits-ne-CELL-clause-err c =
    let t = cell_reference c.kind.result (sym c.cell_opening.ensures ∙ c.in-Reference.is) in
    let k = sym c.kind.ensures ∙ t.1 in
    let o = c.in_ok-target-in-Reference.ensures t.0 k in
    goes_stop made_cells SomeCells (in_elements c.args.bits) _ _ c.cells.invariant.0 _ c.cells.invariant.1
    (width_stop t.0 c.args.bits _ _ k o.0 c.if-bits-ne-CELL.true c.stop.ensures.kind c.stop.ensures.left)

pub cells-preserved-in-Continue-branch-3 : goal.cells-preserved-in-Continue-branch-3
cells-preserved-in-Continue-branch-3 c =
    let i = c.cells.invariant in
    let t = cell_reference c.kind.result (sym c.cell_opening.ensures ∙ c.in-Reference.is) in
    let k = sym c.kind.ensures ∙ t.1 in
    let o = c.in_ok-target-in-Reference.ensures t.0 k in
    let x = reference_cell t.0 (bytes_at (first c.cells.cursor)) in (
      i.0 ++ x ∷ [],
      goes_on made_cells SomeCells (in_elements c.args.bits) c.args.cursor.now c.cells.cursor c.advance-in-Reference.new.self i.0 x i.1 (reference_goes t.0 c.args.bits _ _ k c.if-bits-ne-CELL.false o.0 c.advance-in-Reference.ensures),
      said_more c.args.bits c.args.items.now i.0 x c.cells.items c.push_reference.new.self _ i.2 c.in_ok-push_reference-in-Reference.ensures (ap (λ r. number_of r ∷ []) o.1),
    )

pub returns-in_err-element-in-Number-clause-err : goal.returns-in_err-element-in-Number-clause-err
returns-in_err-element-in-Number-clause-err c =
    let n = ap cell_opening (sym c.kind.ensures) ∙ (sym c.cell_opening.ensures ∙ c.in-Number.is) in
    handed_on c.from_residual-in_err-element-in-Number.result c.in_err-element-in-Number.field-0.0 (λ stop. (a : Around) → IsBroken (in_elements c.args.bits a) SomeCells c.args.cursor.now stop) c.from_residual-in_err-element-in-Number.ensures.1
    (goes_stop made_cells SomeCells (in_elements c.args.bits) _ _ c.cells.invariant.0 _ c.cells.invariant.1 (number_stop c.args.bits _ _ n c.in_err-element-in-Number.ensures.err))

pub push_element-requires-clause-fits : goal.push_element-requires-clause-fits
push_element-requires-clause-fits c = let o = c.in_ok-element-in-Number.ensures.ok outside in element_fits c.args.bits _ _ o.2

pub cells-smaller : goal.cells-smaller
cells-smaller c = let o = c.in_ok-element-in-Number.ensures.ok outside in number_shorter o.0 c.cells.cursor c.number.new.cursor o.1.read

pub cells-preserved : goal.cells-preserved
cells-preserved c =
    let i = c.cells.invariant in
    let n = ap cell_opening (sym c.kind.ensures) ∙ (sym c.cell_opening.ensures ∙ c.in-Number.is) in
    let o = c.in_ok-element-in-Number.ensures.ok outside in
    let x = number_cell (size_in o.0) (expression_in o.0) in (
      i.0 ++ x ∷ [],
      goes_on made_cells SomeCells (in_elements c.args.bits) c.args.cursor.now c.cells.cursor c.number.new.cursor i.0 x i.1 (number_goes c.args.bits _ _ o.0 n (number_read c.args.bits _ _ o.0 outside o.1)),
      said_more c.args.bits c.args.items.now i.0 x c.cells.items c.push_element.new.items _ i.2 c.in_ok-push_element-in-Number.ensures (ap (λ e. map one (to_be_bytes (width_of c.args.bits) e)) o.2),
    )

pub returns-in-Nothing-clause-ok : goal.returns-in-Nothing-clause-ok
returns-in-Nothing-clause-ok c =
    let i = c.cells.invariant in
    let n = ap cell_opening (sym c.kind.ensures) ∙ (sym c.cell_opening.ensures ∙ c.in-Nothing.is) in
    (i.0, goes_to_end made_cells SomeCells (in_elements c.args.bits) c.args.cursor.now c.cells.cursor i.0 c.cells.cursor i.1 (no_cells_read c.args.bits _ n), i.2)
