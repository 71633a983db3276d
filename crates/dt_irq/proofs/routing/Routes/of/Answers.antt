use Rattle.std.proofs.Common.{refl}
use Rattle.dt_resolve_model.specs.Answers.{refused}
use Rattle.dt_resolve_model.proofs.Told.{if_fault}
use Rattle.dt_irq.proofs.routing.Routes.of.Goals as goal

pub returns-in_err-entries-clause-refused : goal.returns-in_err-entries-clause-refused
returns-in_err-entries-clause-refused g c =
    let e = c.in_err-entries.field-0.0 in
    if_fault c.from_residual.result e _ c.from_residual.ensures.1 (λ i. (refused e, c.in_err-entries.ensures.refused i, refl))
