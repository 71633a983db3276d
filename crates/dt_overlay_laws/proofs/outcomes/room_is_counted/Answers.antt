use Rattle.dt_overlay_laws.proofs.Crowded.{room_is_counted}
use Rattle.dt_overlay_laws.proofs.outcomes.room_is_counted.Goals as goal

pub returns : goal.returns
returns c = room_is_counted
