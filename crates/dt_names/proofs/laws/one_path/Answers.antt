use Rattle.dt_names.proofs.PathTexts.{same_path}
use Rattle.dt_names.proofs.laws.one_path.Goals as goal

pub returns : goal.returns
returns c = same_path
