use Rattle.std.proofs.Common.{rules, ◌<◌, length, ◌≡◌, ◌++◌, ◌+◌, ◌∷◌, [], refl, sym, ap, subst, ◌∙◌, arith}
use Rattle.std.proofs.lemmas.List.{append-nil}
use Rattle.std.proofs.lemmas.Result.{err_from_is_err_and}
use Rattle.dt_model.specs.Changes.{with_child_at}
use Rattle.dt_model.specs.Checks.{number, strings_of, structure_of}
use Rattle.dt_model.specs.Names.{Name, IsNodeName}
use Rattle.dt_read.specs.Checked.{placed_of}
use Rattle.dt_read.specs.Cuts.{spliced}
use Rattle.dt_trees.specs.Placed.{IsAt}
use Rattle.dt_edit.specs.Editable.{reading_in, path_in, size_with_node, MayAddIn, WhyNotAddedIn}
use Rattle.dt_edit.specs.Moving.{node_bytes}
use Rattle.dt_edit.proofs.Assembling.{IsEdited, behind_kept, edits_of}
use Rattle.dt_edit.proofs.ChildrenAdded.{root_with_node, node_added, node_total, node_places, node_there}
use Rattle.dt_edit.proofs.lent.add_node.Goals as goal

-- it may be added
may : (c : goal.After-slice_known-2-1) → MayAddIn c.args.bytes.now c.args.parent c.as_bytes-key.result.now
may c = c.in_ok-plan.ensures.allowed refl

pub returns-in_err-plan-clause-refused : goal.returns-in_err-plan-clause-refused
returns-in_err-plan-clause-refused c =
    let e = err_from_is_err_and c.from_residual.result c.from_residual.ensures.1 in
    let why = c.in_err-plan.ensures.refused in
    rw (e.1, e.2) (subst (λ (n : Name). WhyNotAddedIn c.in_err-plan.field-0.0.kind c.args.bytes.now c.args.parent n) c.as_bytes-key.ensures.value why.0, why.1)

pub carry_out-requires-clause-room : goal.carry_out-requires-clause-room
carry_out-requires-clause-room c =
    let plan = c.in_ok-plan.ensures.plan in
    let inside = plan.cut.behind.inside in
    let short : length c.as_bytes-key.result.now < 256 = search rules in
    record { layout = plan.layout; inside = omega arith; short = short; fits = (c.in_ok-plan.ensures.allowed refl).fits }

-- what the bytes are then
done : (c : goal.After-slice_known-2-1) → (let old = c.args.bytes.now in let key = c.as_bytes-key.result.now in let cut = c.in_ok-plan.plan.cut in
    IsEdited c.carry_out.new.bytes (with_child_at (path_in old c.args.parent) key (reading_in old)) (root_with_node old c.args.parent cut key) (spliced cut 0 (node_bytes key) (structure_of old)) (strings_of old ++ []))
done c =
    node_added c.args.bytes.now c.carry_out.new.bytes _ c.args.parent _ c.as_bytes-key.result.now c.in_ok-plan.plan c.requires.editable c.requires.parent
    (subst IsNodeName (sym c.as_bytes-key.ensures.value) c.as_bytes-key.ensures.valid) (may c) c.in_ok-plan.ensures.plan c.carry_out.ensures

-- where the node is
place : (c : goal.After-slice_known-2-1) → number c.args.bytes.now 8 + c.in_ok-plan.plan.cut ≡ c.in_ok-plan.plan.layout.structure_at + c.in_ok-plan.plan.cut
place c = let at = (edits_of c.args.bytes.now c.requires.editable).blocks.structure_at in let here = c.in_ok-plan.ensures.plan.layout.structure_at in omega arith

pub returns-clause-editable : goal.returns-clause-editable
returns-clause-editable c = (done c).is.editable

pub returns-clause-ok : goal.returns-clause-ok
returns-clause-ok c = (done c).is.reads ∙ ap (λ (n : Name). with_child_at (path_in c.args.bytes.now c.args.parent) n (reading_in c.args.bytes.now)) c.as_bytes-key.ensures.value

pub returns-clause-node : goal.returns-clause-node
returns-clause-node c =
    let old = c.args.bytes.now in
    let key = c.as_bytes-key.result.now in
    let cut = c.in_ok-plan.plan.cut in
    let path = path_in old c.args.parent in
    let there = node_there old c.carry_out.new.bytes c.args.parent cut key (with_child_at path key (reading_in old)) (spliced cut 0 (node_bytes key) (structure_of old)) (strings_of old ++ []) (done c) c.requires.parent (may c).fresh in
    subst (λ (n : Name). IsAt (placed_of c.carry_out.new.bytes) (path ++ n ∷ []) (c.in_ok-plan.plan.layout.structure_at + cut)) c.as_bytes-key.ensures.value
    (subst (IsAt (placed_of c.carry_out.new.bytes) (path ++ key ∷ [])) (place c) there)

pub returns-clause-places : goal.returns-clause-places
returns-clause-places c = λ q k at lt.
    let old = c.args.bytes.now in
    let key = c.as_bytes-key.result.now in
    let cut = c.in_ok-plan.plan.cut in
    let here = place c in
    node_places old c.carry_out.new.bytes c.args.parent cut key (with_child_at (path_in old c.args.parent) key (reading_in old)) (spliced cut 0 (node_bytes key) (structure_of old)) (strings_of old ++ []) q k (done c) at (omega (arith, lt))

pub returns-clause-strings : goal.returns-clause-strings
returns-clause-strings c = (done c).is.strings ∙ append-nil (strings_of c.args.bytes.now)

pub returns-clause-size : goal.returns-clause-size
returns-clause-size c =
    let old = c.args.bytes.now in
    let key = c.as_bytes-key.result.now in
    node_total old c.carry_out.new.bytes c.args.parent key c.in_ok-plan.plan (with_child_at (path_in old c.args.parent) key (reading_in old)) (root_with_node old c.args.parent c.in_ok-plan.plan.cut key)
    c.requires.editable c.in_ok-plan.ensures.plan refl (done c)
    ∙ ap (size_with_node old) c.as_bytes-key.ensures.value

pub returns-clause-allowed : goal.returns-clause-allowed
returns-clause-allowed c = λ _. subst (MayAddIn c.args.bytes.now c.args.parent) c.as_bytes-key.ensures.value (may c)

pub returns-clause-behind : goal.returns-clause-behind
returns-clause-behind c =
    let old = c.args.bytes.now in
    behind_kept old c.carry_out.new.bytes (spliced c.in_ok-plan.plan.cut 0 (node_bytes c.as_bytes-key.result.now) (structure_of old)) (strings_of old ++ [])
    (number c.carry_out.new.bytes 4) c.carry_out.ensures (done c).is.total
