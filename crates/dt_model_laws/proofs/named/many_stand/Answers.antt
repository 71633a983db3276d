use Rattle.dt_model_laws.proofs.NamedMeant.{many_stand}
use Rattle.dt_model_laws.proofs.named.many_stand.Goals as goal

pub returns : goal.returns
returns c = many_stand
