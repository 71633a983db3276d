use Rattle.dt_model_laws.proofs.Fresh.{small}
use Rattle.dt_model_laws.proofs.named.least_is_low.Goals as goal

pub returns : goal.returns
returns c = small
