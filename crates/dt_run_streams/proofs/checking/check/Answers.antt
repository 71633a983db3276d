use Rattle.std.proofs.Common.{◌≡◌, refl}
use Rattle.std.proofs.lemmas.Result.{err_from_is_err_and}
use Rattle.dt_trees.specs.Placed.{reading_of}
use Rattle.dt_run_streams.specs.Told.{line_of, IsCounted, counts_line, no_blob}
use Rattle.dt_run_streams.proofs.Tellings.{told, untold}
use Rattle.dt_run_streams.proofs.checking.check.Goals as goal

pub returns-in_err-blob-clause-refused : goal.returns-in_err-blob-clause-refused
returns-in_err-blob-clause-refused g c =
    let p = err_from_is_err_and c.from_residual.result c.from_residual.ensures.1 in rw (p.1, p.2) (no_blob c.in_err-blob.ensures.fault refl)

pub returns-clause-written : goal.returns-clause-written
returns-clause-written g c =
    let bytes = c.args.bytes.now in
    let tree = reading_of c.in_ok-blob.blob in
    let line : line_of c.counts.result ≡ counts_line tree = rw (c.counts.ensures.nodes, c.counts.ensures.properties, c.counts.ensures.reservations) refl in
    told bytes (line_of c.counts.result) (IsCounted bytes) (record { tree = tree; reads = c.in_ok-blob.ensures.reads; within = c.in_ok-blob.ensures.within; line = line })
    _ _ c.put_counts.result c.put_counts.ensures.written

pub returns-clause-refused : goal.returns-clause-refused
returns-clause-refused g c =
    let bytes = c.args.bytes.now in
    let tree = reading_of c.in_ok-blob.blob in
    let line : line_of c.counts.result ≡ counts_line tree = rw (c.counts.ensures.nodes, c.counts.ensures.properties, c.counts.ensures.reservations) refl in
    untold bytes (line_of c.counts.result) (IsCounted bytes) (record { tree = tree; reads = c.in_ok-blob.ensures.reads; within = c.in_ok-blob.ensures.within; line = line })
    _ _ c.put_counts.result c.put_counts.ensures.refused
