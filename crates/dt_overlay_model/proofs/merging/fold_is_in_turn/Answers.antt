use Rattle.dt_overlay_model.proofs.Folding.{fold_is_in_turn}
use Rattle.dt_overlay_model.proofs.merging.fold_is_in_turn.Goals as goal

pub returns : goal.returns
returns c = fold_is_in_turn
