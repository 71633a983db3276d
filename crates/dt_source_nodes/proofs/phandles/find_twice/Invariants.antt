use Rattle.dt_source_nodes.proofs.Twice.{AreSeen}
use Rattle.dt_source_nodes.proofs.phandles.find_twice.Given as goal

abbrev pub invariant-loop-property : goal.invariant-loop-property
invariant-loop-property l = AreSeen l.places l.properties l.property-index l.seen
