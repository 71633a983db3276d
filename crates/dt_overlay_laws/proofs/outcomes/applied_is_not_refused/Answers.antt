use Rattle.dt_overlay_laws.proofs.RefusedOutcomes.{applied_is_not_refused}
use Rattle.dt_overlay_laws.proofs.outcomes.applied_is_not_refused.Goals as goal

pub returns : goal.returns
returns c = applied_is_not_refused
