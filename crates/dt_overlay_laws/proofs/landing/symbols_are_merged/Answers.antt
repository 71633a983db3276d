use Rattle.dt_overlay_laws.proofs.LandedNodes.{symbols_are_merged}
use Rattle.dt_overlay_laws.proofs.landing.symbols_are_merged.Goals as goal

pub returns : goal.returns
returns c = symbols_are_merged
