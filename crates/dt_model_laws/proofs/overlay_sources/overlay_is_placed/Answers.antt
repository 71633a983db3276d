use Rattle.dt_model_laws.proofs.OverlayNested.{overlay_placed, overlay_closed}
use Rattle.dt_model_laws.proofs.overlay_sources.overlay_is_placed.Goals as goal

pub returns-clause-placed : goal.returns-clause-placed
returns-clause-placed c = overlay_placed

pub returns-clause-closed : goal.returns-clause-closed
returns-clause-closed c = overlay_closed
