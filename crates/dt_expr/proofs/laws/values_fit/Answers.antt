use Rattle.dt_expr.proofs.Bounds.{value_small}
use Rattle.dt_expr.proofs.laws.values_fit.Goals as goal

pub returns : goal.returns
returns c = value_small
