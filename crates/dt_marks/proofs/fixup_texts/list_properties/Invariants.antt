-- The properties that are left give the table all.
use Rattle.std.proofs.Common.{◌≡◌, drop, map}
use Rattle.std.specs.List.{flat_map}
use Rattle.dt_source_named_tree.specs.Said.{property_said}
use Rattle.dt_marks.specs.Waiting.{with_texts, property_texts}
use Rattle.dt_marks.proofs.fixup_texts.list_properties.Given as goal

abbrev pub invariant-loop-property : goal.invariant-loop-property
invariant-loop-property l =
    with_texts l.table (flat_map (property_texts l.path) (map property_said (drop l.property-index l.properties)))
    ≡ with_texts l.fn.table (flat_map (property_texts l.path) (map property_said l.properties))
