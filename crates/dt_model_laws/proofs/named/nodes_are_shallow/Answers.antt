use Rattle.dt_model_laws.proofs.Depths.{nodes_are_shallow}
use Rattle.dt_model_laws.proofs.named.nodes_are_shallow.Goals as goal

pub returns : goal.returns
returns c = nodes_are_shallow
