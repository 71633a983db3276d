use Rattle.dt_overlay_model.proofs.Exactly.{applying_is_merging}
use Rattle.dt_overlay_model.proofs.merging.applying_is_merging.Goals as goal

pub returns : goal.returns
returns c = applying_is_merging
