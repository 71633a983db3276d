use Rattle.dt_flat.proofs.Plantable.{may_make}
use Rattle.dt_flat.proofs.planting.may_be_planted.Goals as goal

pub returns : goal.returns
returns c = may_make
