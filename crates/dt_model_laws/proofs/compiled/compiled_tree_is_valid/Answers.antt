use Rattle.dt_model_laws.proofs.CompiledTrees.{tree_valid}
use Rattle.dt_model_laws.proofs.compiled.compiled_tree_is_valid.Goals as goal

pub returns : goal.returns
returns c = tree_valid
