use Rattle.std.proofs.Common.{map, take}
use Rattle.dt_source_named_tree.specs.Said.{property_said}
use Rattle.dt_source_nodes.specs.Resolving.{EachNaming, ArePropertiesRead}
use Rattle.dt_source_nodes.proofs.values.Resolver.add_properties.Given as goal

abbrev pub invariant-loop-index : goal.invariant-loop-index
invariant-loop-index l =
    EachNaming l.self.growing.now l.self.belongings.now.places.items (λ es place.
    ArePropertiesRead l.self.unnamed es place l.self.growing.now.properties.items (take l.index-index l.indices) (map property_said l.properties.items))
