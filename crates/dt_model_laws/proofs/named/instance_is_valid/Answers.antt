use Rattle.dt_model_laws.proofs.InstanceValid.{instance_is_valid}
use Rattle.dt_model_laws.proofs.named.instance_is_valid.Goals as goal

pub returns : goal.returns
returns c = instance_is_valid
