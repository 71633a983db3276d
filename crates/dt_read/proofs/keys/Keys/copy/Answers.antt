use Rattle.std.proofs.Common.{arith}
use Rattle.dt_read.proofs.KeyCounts.{length-keys_in}
use Rattle.dt_read.proofs.keys.Keys.copy.Goals as goal

pub returns-clause-few : goal.returns-clause-few
returns-clause-few c = let few = length-keys_in c.self.inside.wanted c.copy-2.result c.copy.result in omega (arith, c.copy.ensures.few)
