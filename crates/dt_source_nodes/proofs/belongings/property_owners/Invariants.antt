use Rattle.std.proofs.Common.{◌≡◌, map, take}
use Rattle.dt_source_nodes.specs.Contents.{property_owner}
use Rattle.dt_source_nodes.proofs.belongings.property_owners.Given as goal

abbrev pub invariant-loop-property : goal.invariant-loop-property
invariant-loop-property l = l.owners.items ≡ map property_owner (take l.property-index l.properties)
