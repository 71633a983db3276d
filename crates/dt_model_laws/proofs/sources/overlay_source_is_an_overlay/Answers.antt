use Rattle.dt_model_laws.proofs.Overlays.{source_overlay}
use Rattle.dt_model_laws.proofs.sources.overlay_source_is_an_overlay.Goals as goal

pub returns : goal.returns
returns c = source_overlay
