use Rattle.dt_overlay_laws.proofs.RefusedOutcomes.{refused_is_undefined}
use Rattle.dt_overlay_laws.proofs.outcomes.refused_is_undefined.Goals as goal

pub returns : goal.returns
returns c = refused_is_undefined c.applying_is_merging.ensures
