use Rattle.dt_model_laws.proofs.SourceRefusals.{meant_not_refused}
use Rattle.dt_model_laws.proofs.StandingNodes.{few_not_refused}
use Rattle.dt_model_laws.proofs.compiled.compiled_is_not_refused.Goals as goal

pub returns-clause-meant : goal.returns-clause-meant
returns-clause-meant c = meant_not_refused

pub returns-clause-few : goal.returns-clause-few
returns-clause-few c = few_not_refused
