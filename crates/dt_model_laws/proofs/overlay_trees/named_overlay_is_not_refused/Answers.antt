use Rattle.dt_model_laws.proofs.NamedOverlays.{named_not_refused}
use Rattle.dt_model_laws.proofs.overlay_trees.named_overlay_is_not_refused.Goals as goal

pub returns : goal.returns
returns c = named_not_refused
