use Rattle.dt_overlay_laws.proofs.LandedNodes.{fragments_are_merged}
use Rattle.dt_overlay_laws.proofs.landing.fragments_are_merged.Goals as goal

pub returns : goal.returns
returns c = fragments_are_merged
