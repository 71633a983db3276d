use Rattle.std.proofs.Common.{◌++◌, ◌+◌, drop}
use Rattle.std.proofs.lemmas.Result.{err_from_is_err_and}
use Rattle.dt_names.proofs.Sinks.{takes_then, refused_behind}
use Rattle.dt_names.specs.Sink.{joined}
use Rattle.dt_run_streams.proofs.Pieces.{grown, next}
use Rattle.dt_run_streams.proofs.text.put_pieces.Goals as goal

pub loop-piece-preserved : goal.loop-piece-preserved
loop-piece-preserved g c =
    let (front, split, taken) = c.loop-piece.invariant in
    let bytes = c.as_bytes.result.now in (
      front ++ bytes,
      grown c.args.pieces.now c.loop-piece.piece-index _ c.loop-piece-test.true front bytes split c.as_bytes.ensures.value,
      takes_then taken c.in_ok-put_all.ensures.written,
    )

pub returns-in_err-put_all-clause-refused : goal.returns-in_err-put_all-clause-refused
returns-in_err-put_all-clause-refused g c =
    let (front, split, taken) = c.loop-piece.invariant in
    let bytes = c.as_bytes.result.now in
    let pieces = c.args.pieces.now in
    let whole = next pieces c.loop-piece.piece-index _ c.loop-piece-test.true front bytes split c.as_bytes.ensures.value in
    let p = err_from_is_err_and c.from_residual.result c.from_residual.ensures.1 in
    rw (p.1, p.2) (refused_behind (joined pieces) (joined (drop (c.loop-piece.piece-index + 1) pieces)) whole taken c.in_err-put_all.ensures.refused)
