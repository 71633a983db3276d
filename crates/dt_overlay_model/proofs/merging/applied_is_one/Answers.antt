use Rattle.dt_overlay_model.proofs.Folding.{applied_is_one}
use Rattle.dt_overlay_model.proofs.merging.applied_is_one.Goals as goal

pub returns : goal.returns
returns c = applied_is_one
