use Rattle.dt_overlay_model.proofs.Least.{least_is_free}
use Rattle.dt_overlay_model.proofs.merging.least_is_free.Goals as goal

pub returns : goal.returns
returns c = least_is_free
