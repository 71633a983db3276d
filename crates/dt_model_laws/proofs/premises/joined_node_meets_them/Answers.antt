use Rattle.std.proofs.Common.{[]}
use Rattle.dt_model.specs.Rows.{two_cells_sites}
use Rattle.dt_model_laws.specs.Premises.{controller_base, joined_node_object}
use Rattle.dt_model_laws.proofs.CheckedCases.{meet_them, object_defined}
use Rattle.dt_model_laws.proofs.CheckedBases.{controller_names, controller_checked}
use Rattle.dt_model_laws.proofs.CheckedExamples.{joined_node_names, joined_node_checked, joined_node_applicable}
use Rattle.dt_model_laws.proofs.premises.joined_node_meets_them.Goals as goal

pub returns-clause-meet : goal.returns-clause-meet
returns-clause-meet c = meet_them joined_node_object joined_node_names [] joined_node_checked controller_base controller_names controller_checked

pub returns-clause-defined : goal.returns-clause-defined
returns-clause-defined c = object_defined joined_node_object joined_node_names [] joined_node_checked controller_base two_cells_sites joined_node_applicable
