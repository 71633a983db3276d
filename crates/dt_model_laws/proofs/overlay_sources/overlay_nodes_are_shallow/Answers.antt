use Rattle.dt_model_laws.proofs.OverlayDepths.{overlay_shallow, overlay_rooted}
use Rattle.dt_model_laws.proofs.overlay_sources.overlay_nodes_are_shallow.Goals as goal

pub returns-clause-shallow : goal.returns-clause-shallow
returns-clause-shallow c = overlay_shallow

pub returns-clause-rooted : goal.returns-clause-rooted
returns-clause-rooted c = overlay_rooted
