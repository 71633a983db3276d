use Rattle.dt_model_laws.proofs.MergedMeaning.{merged_is_a_meaning}
use Rattle.dt_model_laws.proofs.laws.merged_is_a_meaning.Goals as goal

pub returns : goal.returns
returns c = merged_is_a_meaning
