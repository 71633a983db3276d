use Rattle.dt_source_nodes.proofs.Places.{AreFirstPlaces}
use Rattle.dt_source_nodes.proofs.listing.places.Given as goal

abbrev pub invariant-loop-place : goal.invariant-loop-place
invariant-loop-place l = AreFirstPlaces l.rows l.place l.count l.places.items
