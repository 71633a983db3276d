use Rattle.dt_model_laws.proofs.InstanceMeant.{instance_is_meant}
use Rattle.dt_model_laws.proofs.named.instance_is_meant.Goals as goal

pub returns : goal.returns
returns c = instance_is_meant
