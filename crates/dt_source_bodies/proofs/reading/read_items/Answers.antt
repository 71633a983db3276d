use Rattle.std.proofs.Common.{◌+◌, sym, subst, take}
use Rattle.std.proofs.lemmas.Option.{get_or_from_slice_get, slice_get_within}
use Rattle.std.proofs.lemmas.Result.{err_from_is_err_and}
use Rattle.dt_model.specs.Source.{read_all, nothing}
use Rattle.dt_source_items.specs.Said.{place_said}
use Rattle.dt_source_bodies.specs.Reading.{GoesOn}
use Rattle.dt_source_bodies.specs.Refusals.{mode_said}
use Rattle.dt_source_bodies.proofs.Wholes.{goes_on-is, read_more, told}
use Rattle.dt_source_bodies.proofs.reading.read_items.Goals as goal

pub returns-in_err-step : goal.returns-in_err-step
returns-in_err-step c =
    let m = mode_said c.args.mode in
    let n = c.loop-item.item in
    let p = goes_on-is (read_all m nothing (take n c.args.items.now.places)) c.loop-item.reading n c.loop-item.invariant.goes in
    let q = err_from_is_err_and c.from_residual.result c.from_residual.ensures.1 in
    rw (q.1, q.2) (told m c.args.items.now.places n (place_said c.get.result) p.0 c.in_err-step.field-0.0 (slice_get_within _ n _ c.get.ensures) (sym (get_or_from_slice_get _ n _ _ c.get.ensures)) p.1 (c.in_err-step.ensures.meaning p.0 p.2))

pub loop-item-preserved : goal.loop-item-preserved
loop-item-preserved c =
    let m = mode_said c.args.mode in
    let n = c.loop-item.item in
    let p = goes_on-is (read_all m nothing (take n c.args.items.now.places)) c.loop-item.reading n c.loop-item.invariant.goes in
    record {
      whole = c.in_ok-step.ensures.whole;
      goes = subst (λ o. GoesOn o c.step.new.self (n + 1)) (sym (read_more m c.args.items.now.places n (place_said c.get.result) p.0 (slice_get_within _ n _ c.get.ensures) (sym (get_or_from_slice_get _ n _ _ c.get.ensures)) p.1)) (c.in_ok-step.ensures.meaning p.0 p.2);
    }
