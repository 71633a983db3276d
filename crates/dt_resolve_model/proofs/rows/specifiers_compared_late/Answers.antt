use Rattle.std.proofs.Common.{refl}
use Rattle.dt_resolve_model.specs.Interrupts.{routed}
use Rattle.dt_resolve_model.proofs.rows.specifiers_compared_late.Goals as goal

pub returns-clause-cut : goal.returns-clause-cut
unfolding routed
returns-clause-cut c = (_, refl, refl)

pub returns-clause-compared : goal.returns-clause-compared
unfolding routed
returns-clause-compared c = (_, refl, refl)
