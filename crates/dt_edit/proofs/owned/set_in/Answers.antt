use Rattle.std.proofs.Common.{rules, None, ◌≡◌, ◌+◌, ◌-◌, ◌++◌, ℕ, List, length, take, refl, sym, ap, subst, ◌∙◌, arith}
use Rattle.std.specs.Prelude.{replicate, IfErr}
use Rattle.std.proofs.lemmas.List.{length-append, length-replicate}
use Rattle.std.proofs.lemmas.Result.{err_from_is_err_and, IfErr-weaker}
use Rattle.dt_model.specs.Changes.{with_property_at}
use Rattle.dt_model.specs.Checks.{number, strings_of, structure_of}
use Rattle.dt_model.specs.Limits.{most_bytes}
use Rattle.dt_model.specs.Names.{Name, IsPropertyName}
use Rattle.dt_names.specs.Fault.{IsNoMemory}
use Rattle.dt_names.specs.declared.fault.Fault.{Fault}
use Rattle.dt_read.specs.Checked.{placed_of, root_of}
use Rattle.dt_read.specs.Cuts.{changed_root, with_value, moved, moved_root, spliced}
use Rattle.dt_trees.specs.Placed.{IsAt}
use Rattle.dt_edit.specs.Editable.{reading_in, path_in, size_with_value, FitsIn, IsWhole, MaySetWithin, WhyNotSetOwned, WhyNotSetWithin}
use Rattle.dt_edit.specs.Moving.{property_bytes}
use Rattle.dt_edit.specs.Plans.{added_name, name_offset, IsPropertyPlan}
use Rattle.dt_edit.proofs.GrownBlobs.{IsSameBlob, IsChangedBlob, property_owned, property_room, same_blob, set_owned, written}
use Rattle.dt_edit.proofs.PropertiesSet.{property_places}
use Rattle.dt_edit.proofs.owned.set_in.Goals as goal

-- the plan, of the blob that there was
planned : (c : goal.After-truncate) → (let old = c.args.bytes.now.items in let key = c.as_bytes-key.result.now in let plan = c.in_ok-plan.plan in
    IsPropertyPlan old c.args.node key plan × (plan.size ≡ size_with_value old c.args.node key c.args.value.now) × MaySetWithin most_bytes old c.args.node key c.args.value.now)
planned c =
    let key = c.as_bytes-key.result.now in
    let plan = c.in_ok-plan.plan in
    let value = c.args.value.now in
    let of : List ℕ → Type 0 = λ b. IsPropertyPlan b c.args.node key plan × (plan.size ≡ size_with_value b c.args.node key value) × MaySetWithin most_bytes b c.args.node key value in
    subst of c.deref.ensures.value (c.in_ok-plan.ensures.plan, c.in_ok-plan.ensures.size, c.in_ok-plan.ensures.allowed refl)

pub returns-in_err-plan-clause-refused : goal.returns-in_err-plan-clause-refused
returns-in_err-plan-clause-refused c =
    let old = c.args.bytes.now.items in
    let kind = c.in_err-plan.field-0.0.kind in
    let e = err_from_is_err_and c.from_residual.result c.from_residual.ensures.1 in
    let why = c.in_err-plan.ensures.refused in
    let here = subst (λ (b : List ℕ). WhyNotSetWithin most_bytes kind b c.args.node c.as_bytes-key.result.now c.args.value.now) c.deref.ensures.value why.0 in
    let named = subst (λ (n : Name). WhyNotSetWithin most_bytes kind old c.args.node n c.args.value.now) c.as_bytes-key.ensures.value here in
    rw (e.1, e.2) (set_owned kind old c.args.node c.args.name.now c.args.value.now named, why.1)

pub returns-in_err-grow-clause-refused : goal.returns-in_err-grow-clause-refused
returns-in_err-grow-clause-refused c =
    let old = c.args.bytes.now.items in
    let told : IfErr c.from_residual-in_err-grow.result IsNoMemory = search rules in
    let may = subst (λ (b : List ℕ). MaySetWithin most_bytes b c.args.node c.as_bytes-key.result.now c.args.value.now) c.deref.ensures.value (c.in_ok-plan.ensures.allowed refl) in
    let named = subst (λ (n : Name). MaySetWithin most_bytes old c.args.node n c.args.value.now) c.as_bytes-key.ensures.value may in
    IfErr-weaker c.from_residual-in_err-grow.result IsNoMemory (λ (fault : Fault). WhyNotSetOwned fault.kind old c.args.node c.args.name.now c.args.value.now × (fault.at ≡ None))
    (λ fault why. (subst (λ k. WhyNotSetOwned k old c.args.node c.args.name.now c.args.value.now) (sym why.0) named, why.1)) told

-- the bytes with room
grown : (c : goal.After-truncate) → c.deref_mut.result.now ≡ c.args.bytes.now.items ++ replicate (c.in_ok-plan.plan.size - length c.args.bytes.now.items) 0
grown c = c.deref_mut.ensures.value ∙ c.in_ok-grow.ensures.grown

same : (c : goal.After-truncate) → IsSameBlob c.args.bytes.now.items c.deref_mut.result.now
same c = same_blob c.args.bytes.now.items c.deref_mut.result.now (replicate (c.in_ok-plan.plan.size - length c.args.bytes.now.items) 0) c.requires.whole (grown c)

long_enough : (c : goal.After-truncate) → length c.deref_mut.result.now ≡ length c.args.bytes.now.items + (c.in_ok-plan.plan.size - length c.args.bytes.now.items)
long_enough c =
    let old = c.args.bytes.now.items in
    let zeros : List ℕ = replicate (c.in_ok-plan.plan.size - length old) 0 in
    ap (λ (b : List ℕ). length b) (grown c) ∙ length-append old zeros ∙ ap (λ (n : ℕ). length old + n) (length-replicate (c.in_ok-plan.plan.size - length old) 0)

pub carry_out-requires-clause-editable : goal.carry_out-requires-clause-editable
carry_out-requires-clause-editable c =
    (same_blob c.args.bytes.now.items c.deref_mut.result.now (replicate (c.in_ok-plan.plan.size - length c.args.bytes.now.items) 0) c.requires.whole (c.deref_mut.ensures.value ∙ c.in_ok-grow.ensures.grown)).editable

pub carry_out-requires-clause-room : goal.carry_out-requires-clause-room
carry_out-requires-clause-room c =
    let old = c.args.bytes.now.items in
    let key = c.as_bytes-key.result.now in
    let plan = c.in_ok-plan.plan in
    let value = c.args.value.now in
    let of : List ℕ → Type 0 = λ b. IsPropertyPlan b c.args.node key plan × (plan.size ≡ size_with_value b c.args.node key value) × FitsIn most_bytes (size_with_value b c.args.node key value) in
    let p = subst of c.deref.ensures.value (c.in_ok-plan.ensures.plan, c.in_ok-plan.ensures.size, (c.in_ok-plan.ensures.allowed refl).fits) in
    let zeros : List ℕ = replicate (plan.size - length old) 0 in
    let is : c.deref_mut.result.now ≡ old ++ zeros = c.deref_mut.ensures.value ∙ c.in_ok-grow.ensures.grown in
    let long = ap (λ (b : List ℕ). length b) is ∙ length-append old zeros ∙ ap (λ (n : ℕ). length old + n) (length-replicate (plan.size - length old) 0) in
    let size = p.1 in
    let whole = c.requires.whole.whole in
    property_room old c.deref_mut.result.now c.args.node key value plan (same_blob old c.deref_mut.result.now zeros c.requires.whole is) p.0 p.2 (omega (arith, size, long)) (omega (arith, whole, long))

-- what the blob is then
done : (c : goal.After-truncate) → (let old = c.args.bytes.now.items in let key = c.as_bytes-key.result.now in let value = c.args.value.now in let cut = c.in_ok-plan.plan.cut in
    let own = property_bytes (name_offset old key) value in
    IsChangedBlob (take c.in_ok-plan.plan.size c.carry_out.new.bytes) (with_property_at (path_in old c.args.node) key value (reading_in old))
    (changed_root (with_value key value) (path_in old c.args.node) (moved_root (moved (number old 8 + cut.at) cut.size (length own)) (root_of old)))
    (spliced cut.at cut.size own (structure_of old)) (strings_of old ++ added_name old key) c.in_ok-plan.plan.size)
done c =
    let p = planned c in
    property_owned c.args.bytes.now.items c.deref_mut.result.now c.carry_out.new.bytes c.args.node c.as_bytes-key.result.now c.args.value.now c.in_ok-plan.plan c.requires.whole.editable (same c)
    (subst IsPropertyName (sym c.as_bytes-key.ensures.value) c.as_bytes-key.ensures.valid) p.2.may p.0 p.1 p.2.fits (omega (arith, c.carry_out.auto.bytes, long_enough c)) c.carry_out.ensures

end : (c : goal.After-truncate) → c.truncate.new.self.items ≡ take c.in_ok-plan.plan.size c.carry_out.new.bytes
end c =
    c.truncate.ensures.items
    ∙ ap (take c.in_ok-plan.plan.size) (written c.grow.new.bytes.items c.carry_out.new.bytes c.grow.new.bytes.len (ap (λ (b : List ℕ). length b) (sym c.deref_mut.ensures.value) ∙ c.deref_mut.ensures.len)
    (omega (arith, c.carry_out.auto.bytes, ap (λ (b : List ℕ). length b) c.deref_mut.ensures.value)))

pub returns-clause-whole : goal.returns-clause-whole
returns-clause-whole c = subst IsWhole (sym (end c)) (done c).whole

pub returns-clause-ok : goal.returns-clause-ok
returns-clause-ok c =
    let old = c.args.bytes.now.items in
    ap reading_in (end c) ∙ (done c).is.is.reads ∙ ap (λ (n : Name). with_property_at (path_in old c.args.node) n c.args.value.now (reading_in old)) c.as_bytes-key.ensures.value

pub returns-clause-places : goal.returns-clause-places
returns-clause-places c = λ _ path place at le.
    let old = c.args.bytes.now.items in
    let key = c.as_bytes-key.result.now in
    let cut = c.in_ok-plan.plan.cut in
    let own : List ℕ = property_bytes (name_offset old key) c.args.value.now in
    subst (λ (b : List ℕ). IsAt (placed_of b) path place) (sym (end c))
    (property_places old (take c.in_ok-plan.plan.size c.carry_out.new.bytes) c.args.node key c.args.value.now own cut.at cut.size (with_property_at (path_in old c.args.node) key c.args.value.now (reading_in old))
    (spliced cut.at cut.size own (structure_of old)) (strings_of old ++ added_name old key) path place (planned c).0.cut.behind.begun (done c).is at le)

pub returns-clause-strings : goal.returns-clause-strings
returns-clause-strings c =
    let old = c.args.bytes.now.items in
    ap strings_of (end c) ∙ (done c).is.is.strings ∙ ap (λ (n : Name). strings_of old ++ added_name old n) c.as_bytes-key.ensures.value

pub returns-clause-size : goal.returns-clause-size
returns-clause-size c =
    let old = c.args.bytes.now.items in
    ap (λ (b : List ℕ). length b) (end c) ∙ (done c).long ∙ (planned c).1 ∙ ap (λ (n : Name). size_with_value old c.args.node n c.args.value.now) c.as_bytes-key.ensures.value

pub returns-clause-allowed : goal.returns-clause-allowed
returns-clause-allowed c = λ _.
    subst (λ (n : Name). MaySetWithin most_bytes c.args.bytes.now.items c.args.node n c.args.value.now) c.as_bytes-key.ensures.value (planned c).2
