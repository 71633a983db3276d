use Rattle.dt_model_laws.specs.Premises.{gap_of_numbers_base}
use Rattle.dt_model_laws.proofs.CheckedCases.{base_means, base_is}
use Rattle.dt_model_laws.proofs.CheckedBases.{gap_of_numbers_names, gap_of_numbers_checked}
use Rattle.dt_model_laws.proofs.premises.gap_of_numbers_is_represented.Goals as goal

pub returns-clause-source : goal.returns-clause-source
returns-clause-source c = base_means gap_of_numbers_base gap_of_numbers_names gap_of_numbers_checked

pub returns-clause-represented : goal.returns-clause-represented
returns-clause-represented c = base_is gap_of_numbers_base gap_of_numbers_names gap_of_numbers_checked
