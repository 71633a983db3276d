use Rattle.dt_model.proofs.Blobs.{reads_once}
use Rattle.dt_read.proofs.laws.one_answer.Goals as goal

pub returns-clause-read : goal.returns-clause-read
returns-clause-read c = reads_once

pub returns-clause-only : goal.returns-clause-only
returns-clause-only c = c.blob_has_no_fault.ensures

pub returns-clause-fault : goal.returns-clause-fault
returns-clause-fault c = c.first_fault_is_one.ensures
