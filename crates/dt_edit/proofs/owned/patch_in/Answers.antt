use Rattle.std.proofs.Common.{◌≡◌, ◌++◌, ℕ, List, length, take, drop, sym, ap, subst, ◌∙◌, arith}
use Rattle.dt_read.specs.Checked.{placed_of}
use Rattle.dt_trees.specs.Placed.{IsAt, IsNode}
use Rattle.std.proofs.lemmas.Result.{on_ok_weaker, on_err_weaker, IfErr-weaker}
use Rattle.dt_model.specs.Changes.{with_property_at}
use Rattle.dt_model.specs.Checks.{strings_of}
use Rattle.dt_edit.specs.Editable.{reading_in, path_in, value_patched, HasCellAt, IsEditable, IsWhole, MayPatchIn, WhyNotPatchedIn}
use Rattle.dt_edit.specs.Plans.{IsPatched}
use Rattle.dt_edit.proofs.GrownBlobs.{still_whole, written}
use Rattle.dt_edit.proofs.owned.patch_in.Goals as goal

end : (c : goal.After-bytes-1) → take c.args.bytes.now.len (c.patch_cell.new.bytes ++ drop (length c.patch_cell.new.bytes) c.args.bytes.now.items) ≡ c.patch_cell.new.bytes
end c =
    written c.args.bytes.now.items c.patch_cell.new.bytes c.args.bytes.now.len (ap (λ (b : List ℕ). length b) (sym c.deref_mut.ensures.value) ∙ c.deref_mut.ensures.len)
    (omega (arith, c.patch_cell.auto.bytes, ap (λ (b : List ℕ). length b) c.deref_mut.ensures.value))

pub patch_cell-requires-clause-editable : goal.patch_cell-requires-clause-editable
patch_cell-requires-clause-editable c = subst IsEditable (sym c.deref_mut.ensures.value) c.requires.whole.editable

pub patch_cell-requires-clause-node : goal.patch_cell-requires-clause-node
patch_cell-requires-clause-node c = subst (λ (b : List ℕ). IsNode (placed_of b) c.args.node) (sym c.deref_mut.ensures.value) c.requires.node

pub patch_cell-requires-clause-cell : goal.patch_cell-requires-clause-cell
patch_cell-requires-clause-cell c = subst (λ (b : List ℕ). HasCellAt b c.args.node c.args.name.now c.args.offset) (sym c.deref_mut.ensures.value) c.requires.cell

pub returns-clause-whole : goal.returns-clause-whole
returns-clause-whole c =
    let old = c.deref_mut.result.now in
    subst IsWhole (sym (end c))
    (still_whole c.patch_cell.result old c.patch_cell.new.bytes (subst IsWhole (sym c.deref_mut.ensures.value) c.requires.whole) c.patch_cell.auto.bytes c.patch_cell.ensures.editable c.patch_cell.ensures.size c.patch_cell.ensures.err)

pub returns-clause-places : goal.returns-clause-places
returns-clause-places c = λ ok path place at.
    subst (λ (b : List ℕ). IsAt (placed_of b) path place) (sym (end c))
    (c.patch_cell.ensures.places ok path place (subst (λ (b : List ℕ). IsAt (placed_of b) path place) (sym c.deref_mut.ensures.value) at))

pub returns-clause-cell : goal.returns-clause-cell
returns-clause-cell c = λ ok.
    subst (λ (b : List ℕ). IsPatched c.args.bytes.now.items b c.args.node c.args.name.now c.args.offset c.args.number) (sym (end c))
    (subst (λ (b : List ℕ). IsPatched b c.patch_cell.new.bytes c.args.node c.args.name.now c.args.offset c.args.number) c.deref_mut.ensures.value (c.patch_cell.ensures.cell ok))

pub returns-clause-allowed : goal.returns-clause-allowed
returns-clause-allowed c = λ ok.
    subst (λ (b : List ℕ). MayPatchIn b c.args.node c.args.name.now c.args.offset c.args.number) c.deref_mut.ensures.value (c.patch_cell.ensures.allowed ok)

pub returns-clause-ok : goal.returns-clause-ok
returns-clause-ok c =
    let value = c.deref_mut.ensures.value in
    on_ok_weaker c.patch_cell.result
    (λ e. ap reading_in (end c) ∙ e ∙ ap (λ (b : List ℕ). with_property_at (path_in b c.args.node) c.args.name.now (value_patched b c.args.node c.args.name.now c.args.offset c.args.number) (reading_in b)) value)
    c.patch_cell.ensures.ok

pub returns-clause-err : goal.returns-clause-err
returns-clause-err c = on_err_weaker c.patch_cell.result (λ e. end c ∙ e ∙ c.deref_mut.ensures.value) c.patch_cell.ensures.err

pub returns-clause-refused : goal.returns-clause-refused
returns-clause-refused c =
    IfErr-weaker c.patch_cell.result _ _
    (λ fault why. (subst (λ (b : List ℕ). WhyNotPatchedIn fault.kind b c.args.node c.args.name.now c.args.offset c.args.number) c.deref_mut.ensures.value why.0, why.1)) c.patch_cell.ensures.refused

pub returns-clause-strings : goal.returns-clause-strings
returns-clause-strings c = on_ok_weaker c.patch_cell.result (λ e. ap strings_of (end c) ∙ e ∙ ap strings_of c.deref_mut.ensures.value) c.patch_cell.ensures.strings

pub returns-clause-size : goal.returns-clause-size
returns-clause-size c =
    on_ok_weaker c.patch_cell.result (λ _. ap (λ (b : List ℕ). length b) (end c) ∙ c.patch_cell.auto.bytes ∙ ap (λ (b : List ℕ). length b) c.deref_mut.ensures.value) c.patch_cell.ensures.size
