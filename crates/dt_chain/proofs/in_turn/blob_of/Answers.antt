use Rattle.dt_chain.proofs.Inputs.{base_refused}
use Rattle.dt_chain.proofs.Turns.{inputs_of}
use Rattle.dt_chain.proofs.in_turn.blob_of.Goals as goal

pub returns-in-Err-clause-refused : goal.returns-in-Err-clause-refused
returns-in-Err-clause-refused g c =
    base_refused g.I.Inputs.has_base g.I.Inputs.has_object g.I.Inputs.lacks_base g.I.Inputs.lacks_object c.args.base.now (inputs_of c.args.inputs.now) c.in-Err.fault c.in-Err.ensures.refused

pub returns-clause-blob : goal.returns-clause-blob
returns-clause-blob g c = c.apply_and_write-blob.ensures.blob c.args.base.now c.in-Ok.ensures.tree

pub returns-clause-refused : goal.returns-clause-refused
returns-clause-refused g c = c.apply_and_write-blob.ensures.refused c.args.base.now c.in-Ok.ensures.tree
