use Rattle.dt_overlay_laws.proofs.RefusedOutcomes.{one_refusal}
use Rattle.dt_overlay_laws.proofs.outcomes.one_refusal.Goals as goal

pub returns : goal.returns
returns c = one_refusal
