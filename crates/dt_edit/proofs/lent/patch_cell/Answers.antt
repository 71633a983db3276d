use Rattle.std.proofs.Common.{◌≡◌, ◌+◌, ◌++◌, [], List, ℕ, length, refl, sym, ap, subst, ◌∙◌}
use Rattle.std.proofs.lemmas.List.{append-nil}
use Rattle.dt_model.specs.Changes.{with_property_at}
use Rattle.dt_model.specs.Checks.{number, strings_of, structure_of}
use Rattle.dt_model.specs.Names.{Name, IsPropertyName}
use Rattle.dt_read.specs.Checked.{root_of}
use Rattle.dt_read.specs.Cuts.{changed_root, with_value, moved, moved_root, spliced}
use Rattle.dt_edit.specs.Editable.{reading_in, path_in, value_patched, HasCellAt, MayPatchIn}
use Rattle.dt_edit.specs.Plans.{IsPatched}
use Rattle.dt_edit.proofs.Assembling.{IsEdited}
use Rattle.dt_edit.proofs.CellsPatched.{cell_patched, cell_places, cell_total}
use Rattle.dt_edit.proofs.lent.patch_cell.Goals as goal

pub patch-requires-clause-cell : goal.patch-requires-clause-cell
patch-requires-clause-cell c = subst (λ (n : Name). HasCellAt c.args.bytes.now c.args.node n c.args.offset) (sym c.as_bytes-key.ensures.value) c.requires.cell

-- it may be patched
may : (c : goal.After-slice_known-2-1) → MayPatchIn c.args.bytes.now c.args.node c.as_bytes-key.result.now c.args.offset c.args.number
may c =
    let has = subst (λ (n : Name). HasCellAt c.args.bytes.now c.args.node n c.args.offset) (sym c.as_bytes-key.ensures.value) c.requires.cell in
    (c.may_patch.ensures c.args.offset has).0 c.if-not-may_patch.false

-- what the bytes are then
done : (c : goal.After-slice_known-2-1) → (let old = c.args.bytes.now in let key = c.as_bytes-key.result.now in let value = value_patched old c.args.node key c.args.offset c.args.number in let p = c.patch.ensures in
    (own : List ℕ) × (length own ≡ p.size)
    × IsEdited c.patch.new.bytes (with_property_at (path_in old c.args.node) key value (reading_in old))
    (changed_root (with_value key value) (path_in old c.args.node) (moved_root (moved (number old 8 + p.at) p.size (length own)) (root_of old)))
    (spliced p.at p.size own (structure_of old)) (strings_of old ++ []))
done c =
    let has = subst (λ (n : Name). HasCellAt c.args.bytes.now c.args.node n c.args.offset) (sym c.as_bytes-key.ensures.value) c.requires.cell in
    cell_patched c.args.bytes.now c.patch.new.bytes c.args.node c.as_bytes-key.result.now c.args.offset c.args.number c.requires.editable
    (subst IsPropertyName (sym c.as_bytes-key.ensures.value) c.as_bytes-key.ensures.valid) has (may c) c.patch.ensures

pub returns-clause-editable : goal.returns-clause-editable
returns-clause-editable c = (done c).2.is.editable

pub returns-clause-ok : goal.returns-clause-ok
returns-clause-ok c =
    let old = c.args.bytes.now in
    (done c).2.is.reads ∙ ap (λ (n : Name). with_property_at (path_in old c.args.node) n (value_patched old c.args.node n c.args.offset c.args.number) (reading_in old)) c.as_bytes-key.ensures.value

pub returns-clause-places : goal.returns-clause-places
returns-clause-places c = λ _ path place at.
    let old = c.args.bytes.now in
    let key = c.as_bytes-key.result.now in
    let p = c.patch.ensures in
    let d = done c in
    let value = value_patched old c.args.node key c.args.offset c.args.number in
    cell_places old c.patch.new.bytes d.0 c.args.node key value p.at p.size (with_property_at (path_in old c.args.node) key value (reading_in old)) (spliced p.at p.size d.0 (structure_of old)) (strings_of old ++ [])
    path place d.1 d.2 at

pub returns-clause-strings : goal.returns-clause-strings
returns-clause-strings c = (done c).2.is.strings ∙ append-nil (strings_of c.args.bytes.now)

pub returns-clause-cell : goal.returns-clause-cell
returns-clause-cell c = λ _. subst (λ (n : Name). IsPatched c.args.bytes.now c.patch.new.bytes c.args.node n c.args.offset c.args.number) c.as_bytes-key.ensures.value c.patch.ensures

pub returns-clause-allowed : goal.returns-clause-allowed
returns-clause-allowed c = λ _. subst (λ (n : Name). MayPatchIn c.args.bytes.now c.args.node n c.args.offset c.args.number) c.as_bytes-key.ensures.value (may c)

pub returns-clause-size : goal.returns-clause-size
returns-clause-size c =
    let old = c.args.bytes.now in
    let key = c.as_bytes-key.result.now in
    let p = c.patch.ensures in
    let d = done c in
    let value = value_patched old c.args.node key c.args.offset c.args.number in
    cell_total old c.patch.new.bytes d.0 p.at p.size (with_property_at (path_in old c.args.node) key value (reading_in old))
    (changed_root (with_value key value) (path_in old c.args.node) (moved_root (moved (number old 8 + p.at) p.size (length d.0)) (root_of old))) c.requires.editable refl p.cut.behind.inside d.1 d.2
