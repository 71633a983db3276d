use Rattle.dt_overlay_model.proofs.Finds.{applied_is_found}
use Rattle.dt_overlay_model.proofs.merging.applied_is_found.Goals as goal

pub returns : goal.returns
returns c = applied_is_found
