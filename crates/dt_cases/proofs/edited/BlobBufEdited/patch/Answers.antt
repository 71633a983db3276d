use Rattle.std.proofs.Common.{subst}
use Rattle.dt_edit.specs.Editable.{HasCellAt}
use Rattle.dt_cases.proofs.edited.BlobBufEdited.patch.Goals as goal

pub patch_cell-requires-clause-cell : goal.patch_cell-requires-clause-cell
patch_cell-requires-clause-cell c =
    let is = c.has_cell.ensures.0 c.if-not-has_cell.false in
    let named = subst (λ name. HasCellAt c.as_bytes.result.now c.in_ok-node.node name c.args.cell.offset) c.as_bytes-2.ensures.value is in
    subst (λ bytes. HasCellAt bytes c.in_ok-node.node c.in_ok-name.name c.args.cell.offset) c.as_bytes.ensures named
