use Rattle.std.proofs.Common.{length}
use Rattle.dt_read.proofs.Shallow.{shallow_own}
use Rattle.dt_read.proofs.keys.Keys.own.Goals as goal

pub invariant_of-result : goal.invariant_of-result
invariant_of-result c = shallow_own (length c.push.new.self) c.args.cursor
