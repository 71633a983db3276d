-- The first faults of small sources, by computing.
use Rattle.std.proofs.Common.{refl}
use Rattle.dt_grammar.specs.FaultSamples.{FirstFaults}
use Rattle.dt_grammar.proofs.Verdicts.{first_fault_is}

pub first_faults : FirstFaults
first_faults = record {
  unended = first_fault_is _ _ _ refl;
  name_alone = first_fault_is _ _ _ refl;
  width = first_fault_is _ _ _ refl;
  sum = first_fault_is _ _ _ refl;
  property_name = first_fault_is _ _ _ refl;
  child_name = first_fault_is _ _ _ refl;
  label_name = first_fault_is _ _ _ refl;
  byte_label = first_fault_is _ _ _ refl;
  path = first_fault_is _ _ _ refl;
  cell = first_fault_is _ _ _ refl;
  block = first_fault_is _ _ _ refl;
  deleted_property = first_fault_is _ _ _ refl;
  deleted_child = first_fault_is _ _ _ refl;
  deleted_node = first_fault_is _ _ _ refl;
  flag_behind = first_fault_is _ _ _ refl;
  property_behind = first_fault_is _ _ _ refl;
  deletion_behind = first_fault_is _ _ _ refl;
  behind_deletion = first_fault_is _ _ _ refl;
  reference_width = first_fault_is _ _ _ refl;
  division = first_fault_is _ _ _ refl;
  range = first_fault_is _ _ _ refl;
  reservation = first_fault_is _ _ _ refl;
  deepest = first_fault_is _ _ _ refl;
  too_deep = first_fault_is _ _ _ refl;
  longest = first_fault_is _ _ _ refl;
  too_long = first_fault_is _ _ _ refl;
  too_long_cut_off = first_fault_is _ _ _ refl;
  name_first = first_fault_is _ _ _ refl;
  division_first = first_fault_is _ _ _ refl;
}
