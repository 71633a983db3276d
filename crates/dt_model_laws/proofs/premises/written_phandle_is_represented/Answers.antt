use Rattle.dt_model_laws.specs.Premises.{written_phandle_base}
use Rattle.dt_model_laws.proofs.CheckedCases.{base_means, base_is}
use Rattle.dt_model_laws.proofs.CheckedBases.{written_phandle_names, written_phandle_checked}
use Rattle.dt_model_laws.proofs.premises.written_phandle_is_represented.Goals as goal

pub returns-clause-source : goal.returns-clause-source
returns-clause-source c = base_means written_phandle_base written_phandle_names written_phandle_checked

pub returns-clause-represented : goal.returns-clause-represented
returns-clause-represented c = base_is written_phandle_base written_phandle_names written_phandle_checked
