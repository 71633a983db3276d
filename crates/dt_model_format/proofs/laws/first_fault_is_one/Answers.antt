use Rattle.dt_model_format.proofs.FirstFaults.{one_first_fault}
use Rattle.dt_model_format.proofs.laws.first_fault_is_one.Goals as goal

pub returns : goal.returns
returns c = one_first_fault
