use Rattle.dt_resolve_model.proofs.InterruptsAgree.{one_parent}
use Rattle.dt_resolve_model.proofs.laws.parent_is_one.Goals as goal

pub returns : goal.returns
returns c = λ w p q r h k. one_parent w p q r h k
