use Rattle.dt_resolve_model.proofs.OneRoute.{one_route}
use Rattle.dt_resolve_model.proofs.laws.route_is_one.Goals as goal

pub returns : goal.returns
returns c = λ w p index a b h k. one_route w p index a b h k
