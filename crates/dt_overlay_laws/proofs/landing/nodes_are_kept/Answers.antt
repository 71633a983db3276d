use Rattle.dt_overlay_laws.proofs.SingleChanges.{nodes_counted, properties_counted}
use Rattle.dt_overlay_laws.proofs.landing.nodes_are_kept.Goals as goal

pub returns : goal.returns
returns c q f ps t = (nodes_counted q f t, properties_counted q ps t)
