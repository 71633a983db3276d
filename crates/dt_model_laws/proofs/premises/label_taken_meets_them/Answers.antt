use Rattle.std.proofs.Common.{[]}
use Rattle.dt_model.specs.Rows.{two_cells_sites}
use Rattle.dt_model_laws.specs.Premises.{referring_base, label_taken_object}
use Rattle.dt_model_laws.proofs.CheckedCases.{meet_them, object_defined}
use Rattle.dt_model_laws.proofs.CheckedBases.{referring_names, referring_checked}
use Rattle.dt_model_laws.proofs.CheckedExamples.{label_taken_names, label_taken_checked, label_taken_applicable}
use Rattle.dt_model_laws.proofs.premises.label_taken_meets_them.Goals as goal

pub returns-clause-meet : goal.returns-clause-meet
returns-clause-meet c = meet_them label_taken_object label_taken_names [] label_taken_checked referring_base referring_names referring_checked

pub returns-clause-defined : goal.returns-clause-defined
returns-clause-defined c = object_defined label_taken_object label_taken_names [] label_taken_checked referring_base two_cells_sites label_taken_applicable
