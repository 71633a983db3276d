use Rattle.std.proofs.Common.{◌≡◌, length, sym, subst, ◌∙◌, arith}
use Rattle.std.proofs.lemmas.List.{take_at}
use Rattle.dt_edit.specs.Editable.{HasCellAt, IsEditable}
use Rattle.dt_cases.proofs.edited.LentEdited.patch.Goals as goal

pub patch_cell-requires-clause-cell : goal.patch_cell-requires-clause-cell
patch_cell-requires-clause-cell c =
    let is = c.has_cell.ensures.0 c.if-not-has_cell.false in
    let named = subst (λ name. HasCellAt c.deref-2.result.now c.in_ok-node.node name c.args.cell.offset) c.as_bytes.ensures.value is in
    subst (λ bytes. HasCellAt bytes c.in_ok-node.node c.in_ok-name.name c.args.cell.offset) (c.deref-2.ensures.value ∙ sym c.deref_mut.ensures.value) named

pub invariant_of-self : goal.invariant_of-self
invariant_of-self c =
    let size = c.patch_cell.auto.bytes in
    let len = c.deref_mut.ensures.len in
    let e : length c.patch_cell.new.bytes ≡ c.self.inside.buffer.len = omega arith in
    subst IsEditable (sym (take_at c.patch_cell.new.bytes _ c.self.inside.buffer.len e)) c.patch_cell.ensures.editable

pub invariant_of-self-2 : goal.invariant_of-self-2
invariant_of-self-2 c =
    let size = c.patch_cell.auto.bytes in
    let len = c.deref_mut.ensures.len in
    let e : length c.patch_cell.new.bytes ≡ c.self.inside.buffer.len = omega arith in
    subst IsEditable (sym (take_at c.patch_cell.new.bytes _ c.self.inside.buffer.len e)) c.patch_cell.ensures.editable
