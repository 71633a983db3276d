use Rattle.dt_model_laws.proofs.NamedMeant.{meant_is_named}
use Rattle.dt_model_laws.proofs.named.meant_is_named.Goals as goal

pub returns : goal.returns
returns c = meant_is_named
