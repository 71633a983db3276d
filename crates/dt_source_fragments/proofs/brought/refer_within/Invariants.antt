-- What is left decides as the whole does.
use Rattle.std.proofs.Common.{◌≡◌, map, drop}
use Rattle.dt_model_laws.specs.OverlayChecks as checks
use Rattle.dt_source_named_tree.specs.Said.{property_said}
use Rattle.dt_source_fragments.proofs.brought.refer_within.Given as goal

abbrev pub invariant-loop-property : goal.invariant-loop-property
invariant-loop-property l = checks.refer_within l.marks (map property_said (drop l.property-index l.properties)) ≡ checks.refer_within l.marks (map property_said l.properties)
