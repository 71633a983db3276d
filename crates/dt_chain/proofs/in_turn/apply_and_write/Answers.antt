use Rattle.std.proofs.Common.{length}
use Rattle.std.proofs.lemmas.Result.{err_from_is_err_and}
use Rattle.dt_flat.specs.Arena.{reading}
use Rattle.dt_chain_promises.specs.Apply.{IsOutcome, stopped}
use Rattle.dt_chain.proofs.Inputs.{not_written}
use Rattle.dt_chain.proofs.Turns.{inputs_of, length_inputs}
use Rattle.dt_chain.proofs.in_turn.apply_and_write.Goals as goal

pub returns-in_err-apply_all-clause-refused : goal.returns-in_err-apply_all-clause-refused
returns-in_err-apply_all-clause-refused g c =
    let e = err_from_is_err_and c.from_residual.result c.from_residual.ensures.1 in
    λ base has. rw (e.1, e.2) (stopped (reading c.args.tree.now) c.in_err-apply_all.field-0.0.0 c.in_err-apply_all.field-0.0.1 has c.in_err-apply_all.ensures.refused)

pub returns-in-Err-clause-refused : goal.returns-in-Err-clause-refused
returns-in-Err-clause-refused g c = λ base has.
    let xs = c.args.inputs.now in
    let whole : IsOutcome g.I.Inputs.has_base g.I.Inputs.has_object base (inputs_of xs) (reading c.apply_all.new.tree) =
    record { tree = reading c.args.tree.now; of_base = has; steps = c.in_ok-apply_all.ensures.applied } in
    not_written g.I.Inputs.has_base g.I.Inputs.has_object g.I.Inputs.lacks_base g.I.Inputs.lacks_object base (inputs_of xs) (reading c.apply_all.new.tree) (length xs)
    c.in-Err.fault whole (length_inputs xs) c.in-Err.ensures.refused
