use Rattle.dt_model_laws.proofs.SourceRefusals.{one_refusal}
use Rattle.dt_model_laws.proofs.compiled.refusal_is_one.Goals as goal

pub returns : goal.returns
returns c = one_refusal
