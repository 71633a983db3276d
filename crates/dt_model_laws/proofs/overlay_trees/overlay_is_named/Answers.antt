use Rattle.dt_model_laws.proofs.NamedOverlays.{overlay_is_named, overlay_stand_many}
use Rattle.dt_model_laws.proofs.overlay_trees.overlay_is_named.Goals as goal

pub returns-clause-named : goal.returns-clause-named
returns-clause-named c = overlay_is_named

pub returns-clause-many : goal.returns-clause-many
returns-clause-many c = overlay_stand_many
