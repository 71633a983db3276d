use Rattle.dt_model_format.proofs.DamagedHeaders.{short_faulted, magic_faulted, total_faulted, version_faulted, last_compatible_faulted, aligned_faulted, outside_faulted, reservations_faulted}
use Rattle.dt_model_format.proofs.DamagedTokens.{tag_faulted, cut_faulted, root_name_faulted, property_name_faulted, name_offset_faulted, behind_faulted, second_root_faulted, no_root_faulted}
use Rattle.dt_model_format.proofs.DamagedNesting.{nesting_faulted, no_end_faulted, late_faulted}
use Rattle.dt_model_format.proofs.DamagedTrees.{twice_faulted, phandle_faulted}
use Rattle.dt_model_format.proofs.laws.damaged_blobs.Goals as goal

pub returns : goal.returns
returns c = record {
  short = short_faulted;
  magic = magic_faulted;
  total = total_faulted;
  version = version_faulted;
  last_compatible = last_compatible_faulted;
  aligned = aligned_faulted;
  outside = outside_faulted;
  reservations = reservations_faulted;
  tag = tag_faulted;
  cut = cut_faulted;
  root_name = root_name_faulted;
  property_name = property_name_faulted;
  name_offset = name_offset_faulted;
  nesting = nesting_faulted;
  no_end = no_end_faulted;
  late = late_faulted;
  twice = twice_faulted;
  behind = behind_faulted;
  second_root = second_root_faulted;
  no_root = no_root_faulted;
  phandle = phandle_faulted;
}
