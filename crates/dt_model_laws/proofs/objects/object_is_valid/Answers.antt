use Rattle.dt_model_laws.proofs.ObjectLaws.{object_valid}
use Rattle.dt_model_laws.proofs.objects.object_is_valid.Goals as goal

pub returns : goal.returns
returns c = object_valid
