use Rattle.dt_model_laws.proofs.Orders.{one_order}
use Rattle.dt_model_laws.proofs.sources.order_is_one.Goals as goal

pub returns : goal.returns
returns c age is_kind = one_order age is_kind
