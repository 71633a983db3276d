use Rattle.dt_model_laws.proofs.WorkedNamed.{sample_is_named}
use Rattle.dt_model_laws.proofs.named.named_sample.Goals as goal

pub returns-clause-named : goal.returns-clause-named
returns-clause-named c = sample_is_named
