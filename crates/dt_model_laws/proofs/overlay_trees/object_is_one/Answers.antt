use Rattle.dt_model_laws.proofs.NamedOverlays.{one_object, object_not_refused}
use Rattle.dt_model_laws.proofs.overlay_trees.object_is_one.Goals as goal

pub returns-clause-one : goal.returns-clause-one
returns-clause-one c = one_object

pub returns-clause-only : goal.returns-clause-only
returns-clause-only c = object_not_refused
