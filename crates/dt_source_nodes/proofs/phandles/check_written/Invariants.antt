use Rattle.std.proofs.Common.{◌≡◌, ℕ, ◌<◌, false, Some, slice_get}
use Rattle.dt_source_growing.specs.declared.growing.Property.{Property}
use Rattle.dt_source_nodes.specs.Phandles.{is_unwritten}
use Rattle.dt_source_nodes.proofs.phandles.check_written.Given as goal

abbrev pub invariant-loop-property : goal.invariant-loop-property
invariant-loop-property l = (i : ℕ) (q : Property) → i < l.property-index → slice_get l.properties i ≡ Some q → is_unwritten l.places q ≡ false
