use Rattle.std.proofs.Common.{rules}
use Rattle.dt_model.specs.Event.{age_by}
use Rattle.dt_model_laws.specs.Premises.{written_phandle_base, instance_written_phandle, written_phandle_symbols, gap_of_numbers_base, instance_gap_of_numbers, gap_of_numbers_symbols}
use Rattle.dt_model_laws.proofs.CheckedBases.{written_phandle_names, written_phandle_checked, gap_of_numbers_names, gap_of_numbers_checked}
use Rattle.dt_model_laws.proofs.CheckedCompiled.{IsCheckedTree, tree_is}
use Rattle.dt_model_laws.proofs.premises.written_numbers_are_compiled.Goals as goal

written_checked : IsCheckedTree written_phandle_base instance_written_phandle written_phandle_symbols
unfolding age_by
written_checked = search rules

gap_checked : IsCheckedTree gap_of_numbers_base instance_gap_of_numbers gap_of_numbers_symbols
unfolding age_by
gap_checked = search rules

pub returns-clause-one : goal.returns-clause-one
returns-clause-one c = tree_is written_phandle_base written_phandle_names instance_written_phandle written_phandle_symbols written_phandle_checked written_checked

pub returns-clause-gap : goal.returns-clause-gap
returns-clause-gap c = tree_is gap_of_numbers_base gap_of_numbers_names instance_gap_of_numbers gap_of_numbers_symbols gap_of_numbers_checked gap_checked
