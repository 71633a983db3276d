use Rattle.dt_read.proofs.TableBits.{bit_by_shift}
use Rattle.dt_read.proofs.filter.has_bit.Goals as goal

pub returns : goal.returns
returns c = bit_by_shift _ _
