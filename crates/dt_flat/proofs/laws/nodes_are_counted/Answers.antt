use Rattle.dt_flat.proofs.Counting.{nodes-counted}
use Rattle.dt_flat.proofs.laws.nodes_are_counted.Goals as goal

pub returns : goal.returns
returns c = nodes-counted
