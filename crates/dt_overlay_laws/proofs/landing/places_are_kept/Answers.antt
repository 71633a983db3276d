use Rattle.dt_overlay_laws.proofs.SingleChanges.{child_kept, property_kept, properties_kept, nodes_kept}
use Rattle.dt_overlay_laws.proofs.landing.places_are_kept.Goals as goal

pub returns : goal.returns
returns c = record { child = child_kept; property = property_kept; properties = properties_kept; nodes = nodes_kept }
