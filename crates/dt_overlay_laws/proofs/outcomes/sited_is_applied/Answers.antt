use Rattle.dt_overlay_laws.proofs.PassedOutcomes.{sited_is_applied}
use Rattle.dt_overlay_laws.proofs.outcomes.sited_is_applied.Goals as goal

pub returns : goal.returns
returns c = sited_is_applied c.allowed_may_land.ensures
