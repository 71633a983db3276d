use Rattle.dt_model_laws.proofs.ReadAll.{root_stands}
use Rattle.dt_model_laws.proofs.named.root_stands.Goals as goal

pub returns : goal.returns
returns c = root_stands
