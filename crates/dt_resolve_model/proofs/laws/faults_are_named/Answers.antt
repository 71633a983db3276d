use Rattle.dt_resolve_model.proofs.NamedRoutes.{are_named}
use Rattle.dt_resolve_model.proofs.laws.faults_are_named.Goals as goal

pub returns : goal.returns
returns c = are_named
