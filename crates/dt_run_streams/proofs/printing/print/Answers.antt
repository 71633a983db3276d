use Rattle.std.proofs.Common.{refl}
use Rattle.std.proofs.lemmas.Result.{err_from_is_err_and}
use Rattle.dt_model.specs.Printed.{printed}
use Rattle.dt_trees.specs.Placed.{reading_of}
use Rattle.dt_run_streams.specs.Told.{IsPrinted, no_blob}
use Rattle.dt_run_streams.proofs.Tellings.{told, untold}
use Rattle.dt_run_streams.proofs.printing.print.Goals as goal

pub returns-in_err-blob-clause-refused : goal.returns-in_err-blob-clause-refused
returns-in_err-blob-clause-refused g c =
    let p = err_from_is_err_and c.from_residual.result c.from_residual.ensures.1 in rw (p.1, p.2) (no_blob c.in_err-blob.ensures.fault refl)

pub returns-clause-written : goal.returns-clause-written
returns-clause-written g c =
    let bytes = c.args.bytes.now in
    let tree = reading_of c.in_ok-blob.blob in
    told bytes (printed tree) (IsPrinted bytes) (record { tree = tree; reads = c.in_ok-blob.ensures.reads; within = c.in_ok-blob.ensures.within; is = refl })
    _ _ c.text_of.result c.text_of.ensures.written

pub returns-clause-refused : goal.returns-clause-refused
returns-clause-refused g c =
    let bytes = c.args.bytes.now in
    let tree = reading_of c.in_ok-blob.blob in
    untold bytes (printed tree) (IsPrinted bytes) (record { tree = tree; reads = c.in_ok-blob.ensures.reads; within = c.in_ok-blob.ensures.within; is = refl })
    _ _ c.text_of.result c.text_of.ensures.refused
