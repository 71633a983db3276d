use Rattle.std.proofs.lemmas.Result.{err_from_is_err_and}
use Rattle.dt_run_streams.proofs.Loading.{not_kept}
use Rattle.dt_run_streams.proofs.files.load_next.Goals as goal

pub returns-in_err-push-clause-refused : goal.returns-in_err-push-clause-refused
returns-in_err-push-clause-refused g c =
    let p = err_from_is_err_and c.from_residual-in_err-push.result c.from_residual-in_err-push.ensures.1 in
    rw (p.1, p.2) (not_kept _ _ _ _ _ _ _ p.2.0 c.in_ok-text.ensures.loaded, p.2.1)
