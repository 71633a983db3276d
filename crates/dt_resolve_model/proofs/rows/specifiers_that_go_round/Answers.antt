use Rattle.std.proofs.Common.{refl}
use Rattle.dt_resolve_model.specs.Specifiers.{provided}
use Rattle.dt_resolve_model.proofs.rows.specifiers_that_go_round.Goals as goal

pub returns-clause-told : goal.returns-clause-told
unfolding provided
returns-clause-told c = refl

pub returns-clause-meant : goal.returns-clause-meant
unfolding provided
returns-clause-meant c = refl
