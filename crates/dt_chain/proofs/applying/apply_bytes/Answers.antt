use Rattle.std.proofs.Common.{List, ℕ, sym, subst}
use Rattle.std.proofs.lemmas.Result.{err_from_is_err_and}
use Rattle.dt_model.specs.Tree.{Reading}
use Rattle.dt_trees.specs.Placed.{reading_of}
use Rattle.dt_chain_promises.specs.Apply.{IsRead}
use Rattle.dt_chain_promises.specs.AppliedBytes.{no_base, no_object, IsAppliedToBytes, IsCopy}
use Rattle.dt_chain.proofs.EditedBytes.{applied_to_bytes, no_copy, not_applied_to_bytes}
use Rattle.dt_chain.proofs.applying.apply_bytes.Goals as goal

pub new-requires : goal.new-requires
new-requires c = (reading_of c.in_ok-blob.blob, c.in_ok-blob.ensures.reads, c.in_ok-blob.ensures.within)

pub returns-in_err-blob-clause-refused : goal.returns-in_err-blob-clause-refused
returns-in_err-blob-clause-refused c =
    let e = err_from_is_err_and c.from_residual.result c.from_residual.ensures.1 in
    let why = c.in_err-blob.ensures.fault in
    rw (e.1, e.2) (no_base c.in_err-blob.field-0.0 (record { fault = why.0; kind = why.1; first = why.2 }))

pub returns-in_err-object-clause-refused : goal.returns-in_err-object-clause-refused
returns-in_err-object-clause-refused c =
    let e = err_from_is_err_and c.from_residual-in_err-object.result c.from_residual-in_err-object.ensures.1 in
    let read : IsRead c.args.base.now (reading_of c.in_ok-blob.blob) = record { reads = c.in_ok-blob.ensures.reads; within = c.in_ok-blob.ensures.within } in
    let why = c.in_err-object.ensures.fault in
    rw (e.1, e.2) (no_object (reading_of c.in_ok-blob.blob) c.in_err-object.field-0.0 read (record { fault = why.0; kind = why.1; first = why.2 }))

pub returns-in_err-buffer-clause-refused : goal.returns-in_err-buffer-clause-refused
returns-in_err-buffer-clause-refused c =
    let e = err_from_is_err_and c.from_residual-in_err-buffer.result c.from_residual-in_err-buffer.ensures.1 in
    let t : Reading = reading_of c.in_ok-blob.blob in
    let o : Reading = reading_of c.in_ok-object.object in
    let read : IsRead c.args.base.now t = record { reads = c.in_ok-blob.ensures.reads; within = c.in_ok-blob.ensures.within } in
    let also : IsRead c.args.overlay.now o = record { reads = c.in_ok-object.ensures.reads; within = c.in_ok-object.ensures.within } in
    rw (e.1, e.2) (no_copy c.args.base.now c.args.overlay.now t o c.in_err-buffer.field-0.0 read also c.in_err-buffer.ensures.refused)

pub returns-in_err-apply-clause-refused : goal.returns-in_err-apply-clause-refused
returns-in_err-apply-clause-refused c =
    let e = err_from_is_err_and c.from_residual-in_err-apply.result c.from_residual-in_err-apply.ensures.1 in
    let t : Reading = reading_of c.in_ok-blob.blob in
    let o : Reading = reading_of c.in_ok-object.object in
    let read : IsRead c.args.base.now t = record { reads = c.in_ok-blob.ensures.reads; within = c.in_ok-blob.ensures.within } in
    let also : IsRead c.args.overlay.now o = record { reads = c.in_ok-object.ensures.reads; within = c.in_ok-object.ensures.within } in
    let copy : List ℕ = c.in_ok-buffer.buffer in
    let made = c.in_ok-buffer.ensures in
    let of_base : IsCopy c.args.base.now copy = record { whole = c.validity.ensures; reads = made.reads; structure = made.structure; strings = made.strings } in
    rw (e.1, e.2) (not_applied_to_bytes c.args.base.now c.args.overlay.now copy t o c.in_err-apply.field-0.0 read also of_base c.in_err-apply.ensures.refused)

pub returns-clause-blob : goal.returns-clause-blob
returns-clause-blob c =
    let t : Reading = reading_of c.in_ok-blob.blob in
    let o : Reading = reading_of c.in_ok-object.object in
    let read : IsRead c.args.base.now t = record { reads = c.in_ok-blob.ensures.reads; within = c.in_ok-blob.ensures.within } in
    let also : IsRead c.args.overlay.now o = record { reads = c.in_ok-object.ensures.reads; within = c.in_ok-object.ensures.within } in
    let copy : List ℕ = c.in_ok-buffer.buffer in
    let made = c.in_ok-buffer.ensures in
    let of_base : IsCopy c.args.base.now copy = record { whole = c.validity.ensures; reads = made.reads; structure = made.structure; strings = made.strings } in
    let done = c.in_ok-apply.ensures in
    subst (IsAppliedToBytes c.args.base.now c.args.overlay.now) (sym c.into_bytes.ensures)
    (applied_to_bytes c.args.base.now c.args.overlay.now copy c.apply.new.target t o read also of_base done.well done.applied done.follows c.validity-2.ensures)
