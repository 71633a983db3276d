use Rattle.dt_read.proofs.CheckedBytes.{placed_is_read}
use Rattle.dt_read.proofs.laws.placed_is_read.Goals as goal

pub returns : goal.returns
returns c = placed_is_read
