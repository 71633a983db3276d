use Rattle.dt_overlay_model.proofs.Folding.{in_turn_is_fold}
use Rattle.dt_overlay_model.proofs.merging.in_turn_is_fold.Goals as goal

pub returns : goal.returns
returns c = in_turn_is_fold
