use Rattle.dt_model_laws.proofs.ListedShapes.{listed_are_behind}
use Rattle.dt_model_laws.proofs.overlay_checks.nodes_are_behind.Goals as goal

pub returns : goal.returns
returns c = listed_are_behind
