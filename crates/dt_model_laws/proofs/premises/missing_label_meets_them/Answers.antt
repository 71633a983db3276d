use Rattle.dt_model_laws.specs.Premises.{one_node_base, two_cells_object}
use Rattle.dt_model_laws.proofs.CheckedCases.{meet_them}
use Rattle.dt_model_laws.proofs.CheckedBases.{one_node_names, one_node_checked}
use Rattle.dt_model_laws.proofs.CheckedExamples.{two_cells_names, two_cells_groups, two_cells_checked, missing_label_refused}
use Rattle.dt_model_laws.proofs.premises.missing_label_meets_them.Goals as goal

pub returns-clause-meet : goal.returns-clause-meet
returns-clause-meet c = meet_them two_cells_object two_cells_names two_cells_groups two_cells_checked one_node_base one_node_names one_node_checked

pub returns-clause-refused : goal.returns-clause-refused
returns-clause-refused c = missing_label_refused
