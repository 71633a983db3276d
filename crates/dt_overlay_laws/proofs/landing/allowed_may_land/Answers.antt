use Rattle.dt_overlay_laws.proofs.MayLand.{allowed_may_land}
use Rattle.dt_overlay_laws.proofs.landing.allowed_may_land.Goals as goal

pub returns : goal.returns
returns c = allowed_may_land
