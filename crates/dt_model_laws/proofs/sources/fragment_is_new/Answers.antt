use Rattle.dt_model_laws.proofs.FreeNumbers.{first_free}
use Rattle.dt_model_laws.proofs.NewFragments.{new_fragment_node}
use Rattle.dt_model_laws.proofs.sources.fragment_is_new.Goals as goal

pub returns-clause-number : goal.returns-clause-number
returns-clause-number c = first_free

pub returns-clause-node : goal.returns-clause-node
returns-clause-node c = new_fragment_node
