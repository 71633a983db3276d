use Rattle.std.proofs.Common.{[]}
use Rattle.dt_model.specs.Rows.{inner_sites}
use Rattle.dt_model_laws.specs.Premises.{controller_base, inner_target_object}
use Rattle.dt_model_laws.proofs.CheckedCases.{meet_them, object_defined}
use Rattle.dt_model_laws.proofs.CheckedBases.{controller_names, controller_checked}
use Rattle.dt_model_laws.proofs.CheckedExamples.{inner_target_names, inner_target_checked, inner_target_applicable}
use Rattle.dt_model_laws.proofs.premises.inner_target_meets_them.Goals as goal

pub returns-clause-meet : goal.returns-clause-meet
returns-clause-meet c = meet_them inner_target_object inner_target_names [] inner_target_checked controller_base controller_names controller_checked

pub returns-clause-defined : goal.returns-clause-defined
returns-clause-defined c = object_defined inner_target_object inner_target_names [] inner_target_checked controller_base inner_sites inner_target_applicable
