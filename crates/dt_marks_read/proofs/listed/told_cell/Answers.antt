use Rattle.std.proofs.Common.{sym, refl}
use Rattle.dt_overlay_texts.specs.Cells.{cell_told}
use Rattle.dt_marks_read.proofs.ListedCells.{none_found, told_is_found}
use Rattle.dt_marks_read.proofs.listed.told_cell.Goals as goal

pub returns-in_err-node : goal.returns-in_err-node
returns-in_err-node c = rw c.from_residual.ensures (sym (none_found c.args.blob.now c.validity.ensures.valid c.args.text.now c.in_err-node.ensures))

pub returns : goal.returns
returns c =
    let cell = cell_told c.in_ok-node.cell in
    sym (told_is_found c.args.blob.now c.validity.ensures.valid c.args.text.now cell _ c.in_ok-node.ensures.0.0
    (record { there = c.in_ok-node.ensures.0.1; node = c.in_ok-node.ensures.1; property = refl; offset = refl }))
