use Rattle.dt_model.specs.Rows.{three_values_sites}
use Rattle.dt_model_laws.specs.Premises.{one_node_base, three_values_object}
use Rattle.dt_model_laws.proofs.CheckedCases.{meet_them, object_defined}
use Rattle.dt_model_laws.proofs.CheckedBases.{one_node_names, one_node_checked}
use Rattle.dt_model_laws.proofs.CheckedExamples.{three_values_names, three_values_groups, three_values_checked, three_values_applicable}
use Rattle.dt_model_laws.proofs.premises.three_values_meet_them.Goals as goal

pub returns-clause-meet : goal.returns-clause-meet
returns-clause-meet c = meet_them three_values_object three_values_names three_values_groups three_values_checked one_node_base one_node_names one_node_checked

pub returns-clause-defined : goal.returns-clause-defined
returns-clause-defined c = object_defined three_values_object three_values_names three_values_groups three_values_checked one_node_base three_values_sites three_values_applicable
