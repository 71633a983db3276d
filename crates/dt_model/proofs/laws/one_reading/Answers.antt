use Rattle.dt_model.proofs.Blobs.{reads_once}
use Rattle.dt_model.proofs.laws.one_reading.Goals as goal

pub returns : goal.returns
returns c = reads_once
