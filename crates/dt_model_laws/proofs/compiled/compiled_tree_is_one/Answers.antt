use Rattle.dt_model_laws.proofs.OneTree.{one_tree}
use Rattle.dt_model_laws.proofs.compiled.compiled_tree_is_one.Goals as goal

pub returns : goal.returns
returns c = one_tree
