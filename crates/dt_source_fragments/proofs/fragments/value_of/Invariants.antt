-- What is left decides as the whole does.
use Rattle.std.proofs.Common.{◌≡◌, map, drop}
use Rattle.dt_model.specs.Named as named
use Rattle.dt_source_named_tree.specs.Said.{property_said}
use Rattle.dt_source_fragments.proofs.fragments.value_of.Given as goal

abbrev pub invariant-loop-property : goal.invariant-loop-property
invariant-loop-property l = named.value_of (map property_said (drop l.property-index l.properties)) l.name ≡ named.value_of (map property_said l.properties) l.name
