use Rattle.dt_model_laws.proofs.ReadAll.{one_node}
use Rattle.dt_model_laws.proofs.sources.label_is_one_nodes.Goals as goal

pub returns : goal.returns
returns c = one_node
