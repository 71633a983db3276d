use Rattle.std.proofs.Common.{Err, ap, ◌∙◌, inl, inr, refl}
use Rattle.dt_run.specs.Run.{done, faulty, no_command}
use Rattle.dt_names.proofs.Faults.{is_placeless}
use Rattle.dt_run.proofs.running.run.Goals as goal

pub returns-in-Ok-work : goal.returns-in-Ok-work
returns-in-Ok-work g c = (done, refl, (c.in-Ok.line, c.in-Ok.is, c.in-Ok-work.ensures.done), refl)

pub returns-in-Ok : goal.returns-in-Ok
returns-in-Ok g c =
    (faulty c.in-Err.input c.in-Err.fault, c.tell.ensures.status, inr (c.in-Ok.line, c.in-Ok.is, c.in-Err.ensures.refused), c.tell.ensures.said)

pub returns-in-Err-Memory : goal.returns-in-Err-Memory
returns-in-Err-Memory g c =
    let fault = is_placeless c.of.result _ c.of.ensures.kind c.of.ensures.at in
    (faulty 0 c.of.result, c.tell-in-Err-Memory.ensures.status, inl (c.in-Err-Memory.is ∙ ap Err c.in-Err-Memory.field-0-is, refl, fault, refl, refl), c.tell-in-Err-Memory.ensures.said)

pub returns : goal.returns
returns g c = (no_command c.in-Err-Words.error, c.tell_words.ensures.status, (c.in-Err-Words.is ∙ ap Err c.in-Err-Words.field-0-is, refl, refl), c.tell_words.ensures.said)
