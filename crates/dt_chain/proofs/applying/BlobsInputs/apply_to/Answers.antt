use Rattle.std.proofs.lemmas.Result.{err_from_is_err_and}
use Rattle.dt_flat.specs.Arena.{reading}
use Rattle.dt_trees.specs.Placed.{reading_of}
use Rattle.dt_chain_promises.specs.Apply.{IsRead, no_object}
use Rattle.dt_chain.proofs.Objects.{read_not_applied}
use Rattle.dt_chain.proofs.applying.BlobsInputs.apply_to.Goals as goal

pub returns-in_err-object-clause-refused : goal.returns-in_err-object-clause-refused
returns-in_err-object-clause-refused c =
    let e = err_from_is_err_and c.from_residual.result c.from_residual.ensures.1 in
    let why = c.in_err-object.ensures.fault in
    rw (e.1, e.2) (no_object c.in_err-object.field-0.0 (record { fault = why.0; kind = why.1; first = why.2 }))

pub returns-in_err-apply-clause-refused : goal.returns-in_err-apply-clause-refused
returns-in_err-apply-clause-refused c =
    let e = err_from_is_err_and c.from_residual-in_err-apply.result c.from_residual-in_err-apply.ensures.1 in
    let read : IsRead c.args.input.now (reading_of c.in_ok-object.object) = record { reads = c.in_ok-object.ensures.reads; within = c.in_ok-object.ensures.within } in
    let why = c.in_err-apply.ensures.refused in
    rw (e.1, e.2)
    (read_not_applied (reading c.args.tree.now) (reading_of c.in_ok-object.object) c.args.input.now c.in_err-apply.field-0.0 read
    (why.0, c.tree_room_is_counted.ensures c.in_err-apply.field-0.0.kind c.args.tree.now (reading c.args.tree.now) (reading_of c.in_ok-object.object) why.1))

pub returns-clause-applied : goal.returns-clause-applied
returns-clause-applied c = (
  reading_of c.in_ok-object.object,
  record { reads = c.in_ok-object.ensures.reads; within = c.in_ok-object.ensures.within },
  record { well = c.in_ok-apply.ensures.well; applied = c.in_ok-apply.ensures.applied; valid = c.validity.ensures.valid; within = c.validity.ensures.within },
)
