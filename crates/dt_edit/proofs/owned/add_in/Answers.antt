use Rattle.std.proofs.Common.{rules, ◌≡◌, ◌+◌, ◌-◌, ◌<◌, ◌++◌, ◌∷◌, [], ℕ, List, length, take, drop, None, refl, sym, ap, subst, ◌∙◌, arith}
use Rattle.std.specs.Prelude.{replicate, IfErr}
use Rattle.std.proofs.lemmas.List.{append-nil, length-append, length-replicate}
use Rattle.std.proofs.lemmas.Result.{err_from_is_err_and, IfErr-weaker}
use Rattle.dt_model.specs.Changes.{with_child_at}
use Rattle.dt_model.specs.Checks.{number, strings_of, structure_of}
use Rattle.dt_model.specs.Limits.{most_bytes}
use Rattle.dt_model.specs.Names.{Name, IsNodeName}
use Rattle.dt_names.specs.Fault.{IsNoMemory}
use Rattle.dt_names.specs.declared.fault.Fault.{Fault}
use Rattle.dt_read.specs.Checked.{placed_of}
use Rattle.dt_read.specs.Cuts.{spliced}
use Rattle.dt_trees.specs.Placed.{IsAt}
use Rattle.dt_edit.specs.Editable.{reading_in, path_in, size_with_node, FitsIn, IsWhole, MayAddWithin, WhyNotAddedOwned, WhyNotAddedWithin}
use Rattle.dt_edit.specs.Moving.{node_bytes}
use Rattle.dt_edit.specs.Plans.{IsNodePlan}
use Rattle.dt_edit.proofs.Assembling.{edits_of}
use Rattle.dt_edit.proofs.ChildrenAdded.{root_with_node, node_places, node_there}
use Rattle.dt_edit.proofs.GrownBlobs.{IsSameBlob, IsChangedBlob, added_owned, node_owned, node_room, same_blob, written}
use Rattle.dt_edit.proofs.owned.add_in.Goals as goal

-- the plan, of the blob that there was
planned : (c : goal.After-bytes-1) → (let old = c.args.bytes.now.items in let key = c.as_bytes-key.result.now in let plan = c.in_ok-plan.plan in
    IsNodePlan old c.args.parent plan × (plan.size ≡ size_with_node old key) × MayAddWithin most_bytes old c.args.parent key)
planned c =
    let key = c.as_bytes-key.result.now in
    let plan = c.in_ok-plan.plan in
    let of : List ℕ → Type 0 = λ b. IsNodePlan b c.args.parent plan × (plan.size ≡ size_with_node b key) × MayAddWithin most_bytes b c.args.parent key in
    subst of c.deref.ensures.value (c.in_ok-plan.ensures.plan, c.in_ok-plan.ensures.size, c.in_ok-plan.ensures.allowed refl)

pub returns-in_err-plan-clause-refused : goal.returns-in_err-plan-clause-refused
returns-in_err-plan-clause-refused c =
    let old = c.args.bytes.now.items in
    let kind = c.in_err-plan.field-0.0.kind in
    let e = err_from_is_err_and c.from_residual.result c.from_residual.ensures.1 in
    let why = c.in_err-plan.ensures.refused in
    let here = subst (λ (b : List ℕ). WhyNotAddedWithin most_bytes kind b c.args.parent c.as_bytes-key.result.now) c.deref.ensures.value why.0 in
    let named = subst (λ (n : Name). WhyNotAddedWithin most_bytes kind old c.args.parent n) c.as_bytes-key.ensures.value here in
    rw (e.1, e.2) (added_owned kind old c.args.parent c.args.name.now named, why.1)

pub returns-in_err-grow-clause-refused : goal.returns-in_err-grow-clause-refused
returns-in_err-grow-clause-refused c =
    let old = c.args.bytes.now.items in
    let key = c.as_bytes-key.result.now in
    let told : IfErr c.from_residual-in_err-grow.result IsNoMemory = search rules in
    let may = subst (λ (b : List ℕ). MayAddWithin most_bytes b c.args.parent key) c.deref.ensures.value (c.in_ok-plan.ensures.allowed refl) in
    let added = subst (λ (n : Name). MayAddWithin most_bytes old c.args.parent n) c.as_bytes-key.ensures.value may in
    IfErr-weaker c.from_residual-in_err-grow.result IsNoMemory (λ (fault : Fault). WhyNotAddedOwned fault.kind old c.args.parent c.args.name.now × (fault.at ≡ None))
    (λ fault why. (subst (λ k. WhyNotAddedOwned k old c.args.parent c.args.name.now) (sym why.0) added, why.1)) told

-- the bytes with room
grown : (c : goal.After-bytes-1) → c.deref_mut.result.now ≡ c.args.bytes.now.items ++ replicate (c.in_ok-plan.plan.size - length c.args.bytes.now.items) 0
grown c = c.deref_mut.ensures.value ∙ c.in_ok-grow.ensures.grown

same : (c : goal.After-bytes-1) → IsSameBlob c.args.bytes.now.items c.deref_mut.result.now
same c = same_blob c.args.bytes.now.items c.deref_mut.result.now (replicate (c.in_ok-plan.plan.size - length c.args.bytes.now.items) 0) c.requires.whole (grown c)

long_enough : (c : goal.After-bytes-1) → length c.deref_mut.result.now ≡ length c.args.bytes.now.items + (c.in_ok-plan.plan.size - length c.args.bytes.now.items)
long_enough c =
    let old = c.args.bytes.now.items in
    let zeros : List ℕ = replicate (c.in_ok-plan.plan.size - length old) 0 in
    ap (λ (b : List ℕ). length b) (grown c) ∙ length-append old zeros ∙ ap (λ (n : ℕ). length old + n) (length-replicate (c.in_ok-plan.plan.size - length old) 0)

pub carry_out-requires-clause-editable : goal.carry_out-requires-clause-editable
carry_out-requires-clause-editable c =
    (same_blob c.args.bytes.now.items c.deref_mut.result.now (replicate (c.in_ok-plan.plan.size - length c.args.bytes.now.items) 0) c.requires.whole (c.deref_mut.ensures.value ∙ c.in_ok-grow.ensures.grown)).editable

pub carry_out-requires-clause-room : goal.carry_out-requires-clause-room
carry_out-requires-clause-room c =
    let old = c.args.bytes.now.items in
    let key = c.as_bytes-key.result.now in
    let plan = c.in_ok-plan.plan in
    let of : List ℕ → Type 0 = λ b. IsNodePlan b c.args.parent plan × (plan.size ≡ size_with_node b key) × FitsIn most_bytes (size_with_node b key) in
    let p = subst of c.deref.ensures.value (c.in_ok-plan.ensures.plan, c.in_ok-plan.ensures.size, (c.in_ok-plan.ensures.allowed refl).fits) in
    let zeros : List ℕ = replicate (plan.size - length old) 0 in
    let is : c.deref_mut.result.now ≡ old ++ zeros = c.deref_mut.ensures.value ∙ c.in_ok-grow.ensures.grown in
    let long = ap (λ (b : List ℕ). length b) is ∙ length-append old zeros ∙ ap (λ (n : ℕ). length old + n) (length-replicate (plan.size - length old) 0) in
    let size = p.1 in
    let short : length key < 256 = search rules in
    node_room old c.deref_mut.result.now c.args.parent key plan (same_blob old c.deref_mut.result.now zeros c.requires.whole is) p.0 p.2 short (omega (arith, size, long))

-- what the blob is then
done : (c : goal.After-bytes-1) → (let old = c.args.bytes.now.items in let key = c.as_bytes-key.result.now in let cut = c.in_ok-plan.plan.cut in
    IsChangedBlob c.carry_out.new.bytes (with_child_at (path_in old c.args.parent) key (reading_in old)) (root_with_node old c.args.parent cut key) (spliced cut 0 (node_bytes key) (structure_of old)) (strings_of old ++ []) c.in_ok-plan.plan.size)
done c =
    let p = planned c in
    let size = p.1 in
    let whole = c.requires.whole.whole in
    node_owned c.args.bytes.now.items c.deref_mut.result.now c.carry_out.new.bytes c.args.parent c.as_bytes-key.result.now c.in_ok-plan.plan c.requires.whole.editable (same c) c.requires.parent
    (subst IsNodeName (sym c.as_bytes-key.ensures.value) c.as_bytes-key.ensures.valid) p.2 p.0 p.1 (omega (arith, c.carry_out.auto.bytes, long_enough c, size, whole)) c.carry_out.ensures

end : (c : goal.After-bytes-1) → take c.grow.new.bytes.len (c.carry_out.new.bytes ++ drop (length c.carry_out.new.bytes) c.grow.new.bytes.items) ≡ c.carry_out.new.bytes
end c =
    written c.grow.new.bytes.items c.carry_out.new.bytes c.grow.new.bytes.len (ap (λ (b : List ℕ). length b) (sym c.deref_mut.ensures.value) ∙ c.deref_mut.ensures.len)
    (omega (arith, c.carry_out.auto.bytes, ap (λ (b : List ℕ). length b) c.deref_mut.ensures.value))

-- where the node is
place : (c : goal.After-bytes-1) → number c.args.bytes.now.items 8 + c.in_ok-plan.plan.cut ≡ c.in_ok-plan.plan.layout.structure_at + c.in_ok-plan.plan.cut
place c = let at = (edits_of c.args.bytes.now.items c.requires.whole.editable).blocks.structure_at in let here = (planned c).0.layout.structure_at in omega arith

pub returns-clause-whole : goal.returns-clause-whole
returns-clause-whole c = subst IsWhole (sym (end c)) (done c).whole

pub returns-clause-ok : goal.returns-clause-ok
returns-clause-ok c =
    let old = c.args.bytes.now.items in
    ap reading_in (end c) ∙ (done c).is.is.reads ∙ ap (λ (n : Name). with_child_at (path_in old c.args.parent) n (reading_in old)) c.as_bytes-key.ensures.value

pub returns-clause-node : goal.returns-clause-node
returns-clause-node c =
    let old = c.args.bytes.now.items in
    let key = c.as_bytes-key.result.now in
    let cut = c.in_ok-plan.plan.cut in
    let path = path_in old c.args.parent in
    let there = node_there old c.carry_out.new.bytes c.args.parent cut key (with_child_at path key (reading_in old)) (spliced cut 0 (node_bytes key) (structure_of old)) (strings_of old ++ []) (done c).is c.requires.parent (planned c).2.fresh in
    subst (λ (b : List ℕ). IsAt (placed_of b) (path ++ c.args.name.now ∷ []) (c.in_ok-plan.plan.layout.structure_at + cut)) (sym (end c))
    (subst (λ (n : Name). IsAt (placed_of c.carry_out.new.bytes) (path ++ n ∷ []) (c.in_ok-plan.plan.layout.structure_at + cut)) c.as_bytes-key.ensures.value
    (subst (IsAt (placed_of c.carry_out.new.bytes) (path ++ key ∷ [])) (place c) there))

pub returns-clause-places : goal.returns-clause-places
returns-clause-places c = λ q k at lt.
    let old = c.args.bytes.now.items in
    let key = c.as_bytes-key.result.now in
    let cut = c.in_ok-plan.plan.cut in
    let here = place c in
    subst (λ (b : List ℕ). IsAt (placed_of b) q k) (sym (end c))
    (node_places old c.carry_out.new.bytes c.args.parent cut key (with_child_at (path_in old c.args.parent) key (reading_in old)) (spliced cut 0 (node_bytes key) (structure_of old)) (strings_of old ++ []) q k (done c).is at (omega (arith, lt)))

pub returns-clause-strings : goal.returns-clause-strings
returns-clause-strings c = ap strings_of (end c) ∙ (done c).is.is.strings ∙ append-nil (strings_of c.args.bytes.now.items)

pub returns-clause-allowed : goal.returns-clause-allowed
returns-clause-allowed c = λ _. subst (λ (n : Name). MayAddWithin most_bytes c.args.bytes.now.items c.args.parent n) c.as_bytes-key.ensures.value (planned c).2

pub returns-clause-size : goal.returns-clause-size
returns-clause-size c = ap (λ (b : List ℕ). length b) (end c) ∙ (done c).long ∙ (planned c).1 ∙ ap (size_with_node c.args.bytes.now.items) c.as_bytes-key.ensures.value
