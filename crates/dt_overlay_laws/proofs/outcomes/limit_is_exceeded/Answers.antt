use Rattle.dt_overlay_laws.proofs.ExceededLimits.{limit_is_exceeded}
use Rattle.dt_overlay_laws.proofs.outcomes.limit_is_exceeded.Goals as goal

pub returns : goal.returns
returns c = limit_is_exceeded
