use Rattle.dt_model_format.proofs.NoFaults.{no_first_fault}
use Rattle.dt_model_format.proofs.laws.blob_has_no_fault.Goals as goal

pub returns : goal.returns
returns c = no_first_fault
