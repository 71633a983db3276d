use Rattle.dt_model_laws.proofs.CompiledTrees.{base_tree_represents}
use Rattle.dt_model_laws.proofs.compiled.compiled_base_represents.Goals as goal

pub returns : goal.returns
returns c = base_tree_represents
