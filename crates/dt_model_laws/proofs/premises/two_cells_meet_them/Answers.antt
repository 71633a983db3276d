use Rattle.dt_model.specs.Rows.{two_cells_sites}
use Rattle.dt_model_laws.specs.Premises.{controller_base, two_cells_object}
use Rattle.dt_model_laws.proofs.CheckedCases.{meet_them, object_defined}
use Rattle.dt_model_laws.proofs.CheckedBases.{controller_names, controller_checked}
use Rattle.dt_model_laws.proofs.CheckedExamples.{two_cells_names, two_cells_groups, two_cells_checked, two_cells_applicable}
use Rattle.dt_model_laws.proofs.premises.two_cells_meet_them.Goals as goal

pub returns-clause-meet : goal.returns-clause-meet
returns-clause-meet c = meet_them two_cells_object two_cells_names two_cells_groups two_cells_checked controller_base controller_names controller_checked

pub returns-clause-defined : goal.returns-clause-defined
returns-clause-defined c = object_defined two_cells_object two_cells_names two_cells_groups two_cells_checked controller_base two_cells_sites two_cells_applicable
