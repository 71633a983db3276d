use Rattle.dt_flat.proofs.ByPath.{reading_at}
use Rattle.dt_flat.proofs.laws.reading_by_path.Goals as goal

pub returns : goal.returns
returns c = reading_at
