use Rattle.dt_model_laws.proofs.NamedLists.{list_is_of_its_tree}
use Rattle.dt_model_laws.proofs.named.list_is_of_its_tree.Goals as goal

pub returns : goal.returns
returns c = list_is_of_its_tree
