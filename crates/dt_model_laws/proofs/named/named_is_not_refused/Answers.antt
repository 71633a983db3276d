use Rattle.dt_model_laws.proofs.NamedRefusals.{named_is_not_refused}
use Rattle.dt_model_laws.proofs.named.named_is_not_refused.Goals as goal

pub returns : goal.returns
returns c = named_is_not_refused
