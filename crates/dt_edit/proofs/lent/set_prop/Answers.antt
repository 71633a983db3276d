use Rattle.std.proofs.Common.{◌++◌, ◌+◌, List, ℕ, length, refl, sym, ap, subst, ◌∙◌}
use Rattle.std.proofs.lemmas.Result.{err_from_is_err_and}
use Rattle.dt_model.specs.Changes.{with_property_at}
use Rattle.dt_model.specs.Checks.{number, strings_of, structure_of}
use Rattle.dt_model.specs.Names.{Name, IsPropertyName}
use Rattle.dt_read.specs.Checked.{root_of}
use Rattle.dt_read.specs.Cuts.{changed_root, with_value, moved, moved_root, spliced}
use Rattle.dt_edit.specs.Editable.{reading_in, path_in, size_with_value, MaySetIn, WhyNotSetIn}
use Rattle.dt_edit.specs.Moving.{property_bytes}
use Rattle.dt_edit.specs.Plans.{added_name, name_offset}
use Rattle.dt_edit.proofs.Assembling.{IsEdited, behind_kept, edits_of}
use Rattle.dt_edit.proofs.GrownBlobs.{property_room, same_own}
use Rattle.dt_edit.proofs.PropertiesSet.{property_set, property_total, property_places}
use Rattle.dt_edit.proofs.lent.set_prop.Goals as goal

pub carry_out-requires-clause-room : goal.carry_out-requires-clause-room
carry_out-requires-clause-room c =
    let old = c.args.bytes.now in
    let fits = (c.in_ok-plan.ensures.allowed refl).fits in
    property_room old old c.args.node c.as_bytes-key.result.now c.args.value.now c.in_ok-plan.plan (same_own old c.requires.editable) c.in_ok-plan.ensures.plan (record { room = fits.limit; limit = fits.limit }) fits.room
    (edits_of old c.requires.editable).inside

pub returns-in_err-plan-clause-refused : goal.returns-in_err-plan-clause-refused
returns-in_err-plan-clause-refused c =
    let e = err_from_is_err_and c.from_residual.result c.from_residual.ensures.1 in
    let why = c.in_err-plan.ensures.refused in
    rw (e.1, e.2) (subst (λ (n : Name). WhyNotSetIn c.in_err-plan.field-0.0.kind c.args.bytes.now c.args.node n c.args.value.now) c.as_bytes-key.ensures.value why.0, why.1)

-- what the bytes are then
done : (c : goal.After-slice_known-2-1) → (let old = c.args.bytes.now in let key = c.as_bytes-key.result.now in let cut = c.in_ok-plan.plan.cut in let own = property_bytes (name_offset old key) c.args.value.now in
    IsEdited c.carry_out.new.bytes (with_property_at (path_in old c.args.node) key c.args.value.now (reading_in old))
    (changed_root (with_value key c.args.value.now) (path_in old c.args.node) (moved_root (moved (number old 8 + cut.at) cut.size (length own)) (root_of old)))
    (spliced cut.at cut.size own (structure_of old)) (strings_of old ++ added_name old key))
done c =
    property_set c.args.bytes.now c.carry_out.new.bytes _ c.args.node c.as_bytes-key.result.now c.args.value.now c.in_ok-plan.plan c.requires.editable
    (subst IsPropertyName (sym c.as_bytes-key.ensures.value) c.as_bytes-key.ensures.valid) (c.in_ok-plan.ensures.allowed refl).may c.in_ok-plan.ensures.plan (c.in_ok-plan.ensures.allowed refl).fits.limit c.carry_out.ensures

pub returns-clause-editable : goal.returns-clause-editable
returns-clause-editable c = (done c).is.editable

pub returns-clause-ok : goal.returns-clause-ok
returns-clause-ok c =
    (done c).is.reads ∙ ap (λ (n : Name). with_property_at (path_in c.args.bytes.now c.args.node) n c.args.value.now (reading_in c.args.bytes.now)) c.as_bytes-key.ensures.value

pub returns-clause-places : goal.returns-clause-places
returns-clause-places c = λ _ path place at le.
    let old = c.args.bytes.now in
    let key = c.as_bytes-key.result.now in
    let cut = c.in_ok-plan.plan.cut in
    let own : List ℕ = property_bytes (name_offset old key) c.args.value.now in
    property_places old c.carry_out.new.bytes c.args.node key c.args.value.now own cut.at cut.size (with_property_at (path_in old c.args.node) key c.args.value.now (reading_in old))
    (spliced cut.at cut.size own (structure_of old)) (strings_of old ++ added_name old key) path place c.in_ok-plan.ensures.plan.cut.behind.begun (done c) at le

pub returns-clause-strings : goal.returns-clause-strings
returns-clause-strings c = (done c).is.strings ∙ ap (λ (n : Name). strings_of c.args.bytes.now ++ added_name c.args.bytes.now n) c.as_bytes-key.ensures.value

pub returns-clause-size : goal.returns-clause-size
returns-clause-size c =
    let old = c.args.bytes.now in
    let key = c.as_bytes-key.result.now in
    let cut = c.in_ok-plan.plan.cut in
    let own : List ℕ = property_bytes (name_offset old key) c.args.value.now in
    property_total old c.carry_out.new.bytes c.args.node key c.args.value.now c.in_ok-plan.plan (with_property_at (path_in old c.args.node) key c.args.value.now (reading_in old))
    (changed_root (with_value key c.args.value.now) (path_in old c.args.node) (moved_root (moved (number old 8 + cut.at) cut.size (length own)) (root_of old)))
    c.requires.editable c.in_ok-plan.ensures.plan refl (done c)
    ∙ ap (λ (n : Name). size_with_value old c.args.node n c.args.value.now) c.as_bytes-key.ensures.value

pub returns-clause-behind : goal.returns-clause-behind
returns-clause-behind c =
    let old = c.args.bytes.now in
    let key = c.as_bytes-key.result.now in
    let cut = c.in_ok-plan.plan.cut in
    behind_kept old c.carry_out.new.bytes (spliced cut.at cut.size (property_bytes (name_offset old key) c.args.value.now) (structure_of old)) (strings_of old ++ added_name old key)
    (number c.carry_out.new.bytes 4) c.carry_out.ensures (done c).is.total

pub returns-clause-allowed : goal.returns-clause-allowed
returns-clause-allowed c = λ _.
    subst (λ (n : Name). MaySetIn c.args.bytes.now c.args.node n c.args.value.now) c.as_bytes-key.ensures.value (c.in_ok-plan.ensures.allowed refl)
