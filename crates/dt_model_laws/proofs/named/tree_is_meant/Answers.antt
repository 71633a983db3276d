use Rattle.dt_model_laws.proofs.TreeMeant.{tree_is_meant}
use Rattle.dt_model_laws.proofs.named.tree_is_meant.Goals as goal

pub returns : goal.returns
returns c = tree_is_meant
