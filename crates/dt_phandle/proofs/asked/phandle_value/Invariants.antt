-- The property is among those that are left.
use Rattle.std.proofs.Common.{◌≡◌, map, drop, codes}
use Rattle.dt_model.specs.Named.{value_of}
use Rattle.dt_source_named_tree.specs.Said.{property_said}
use Rattle.dt_phandle.proofs.asked.phandle_value.Given as goal

abbrev pub invariant-loop-property : goal.invariant-loop-property
invariant-loop-property l =
    value_of (map property_said (drop l.property-index l.properties)) (codes "phandle") ≡ value_of (map property_said l.properties) (codes "phandle")
