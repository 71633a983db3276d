use Rattle.dt_model_laws.proofs.NamedOverlays.{one_named_overlay}
use Rattle.dt_model_laws.proofs.overlay_trees.named_overlay_is_one.Goals as goal

pub returns : goal.returns
returns c = one_named_overlay
