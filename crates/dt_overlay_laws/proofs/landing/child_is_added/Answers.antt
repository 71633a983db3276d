use Rattle.dt_overlay_laws.proofs.SingleChanges.{child_stands, child_counted, child_there}
use Rattle.dt_overlay_laws.proofs.landing.child_is_added.Goals as goal

pub returns : goal.returns
returns c = record { stands = child_stands; new = child_counted; there = child_there }
