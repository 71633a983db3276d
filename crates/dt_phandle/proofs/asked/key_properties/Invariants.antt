-- The properties that are left key as all do.
use Rattle.std.proofs.Common.{◌≡◌, length, map, drop}
use Rattle.std.specs.List.{AllByRecursion}
use Rattle.dt_model.specs.NamedOf.{IsBelow}
use Rattle.dt_model.specs.Meaning.{EachReference}
use Rattle.dt_source_named_tree.specs.Said.{property_said}
use Rattle.dt_phandle.specs.Asking.{asked_said, keyed_too, is_in_properties}
use Rattle.dt_phandle.proofs.asked.key_properties.Given as goal

abbrev pub invariant-loop-property : goal.invariant-loop-property
invariant-loop-property l = record {
  referred : AllByRecursion (λ p. EachReference (IsBelow (length l.fn.asked)) p.value) (map property_said (drop l.property-index l.properties));
  same : keyed_too (is_in_properties (map property_said (drop l.property-index l.properties))) 0 (map asked_said l.asked)
      ≡ keyed_too (is_in_properties (map property_said l.properties)) 0 (map asked_said l.fn.asked);
}
