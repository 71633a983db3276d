use Rattle.dt_model.proofs.SampleBlobs.{nops_read, suffix_read, late_unread}
use Rattle.dt_model.proofs.laws.sample_blobs.Goals as goal

pub returns-clause-nops : goal.returns-clause-nops
returns-clause-nops c = nops_read

pub returns-clause-suffix : goal.returns-clause-suffix
returns-clause-suffix c = suffix_read

pub returns-clause-late : goal.returns-clause-late
returns-clause-late c = late_unread
