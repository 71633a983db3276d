use Rattle.std.proofs.lemmas.Result.{err_from_is_err_and}
use Rattle.dt_source_bodies.proofs.reading.Reading.overlay_item.Goals as goal

pub returns-in_err-overlay_step-in_default : goal.returns-in_err-overlay_step-in_default
returns-in_err-overlay_step-in_default c =
    let q = err_from_is_err_and c.from_residual.result c.from_residual.ensures.1 in
    record {
      meaning = λ written s rest h left. rw (q.1, q.2) (c.in_err-overlay_step-in_default.ensures.meaning written s h);
      whole = rw q.1 tt;
      rooted = rw q.1 tt;
    }
