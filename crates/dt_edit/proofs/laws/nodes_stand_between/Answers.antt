use Rattle.dt_edit.proofs.Between.{between}
use Rattle.dt_edit.proofs.laws.nodes_stand_between.Goals as goal

pub returns : goal.returns
returns c = between
