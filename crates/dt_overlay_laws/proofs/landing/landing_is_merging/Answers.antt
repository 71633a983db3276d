use Rattle.dt_overlay_laws.proofs.LandedNodes.{landing_is_merging}
use Rattle.dt_overlay_laws.proofs.landing.landing_is_merging.Goals as goal

pub returns : goal.returns
returns c = landing_is_merging
