use Rattle.dt_model_laws.proofs.OneOverlay.{one_overlay}
use Rattle.dt_model_laws.proofs.overlay_sources.overlay_is_one.Goals as goal

pub returns : goal.returns
returns c = one_overlay
