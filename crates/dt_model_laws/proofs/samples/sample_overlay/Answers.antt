use Rattle.dt_model_laws.proofs.SampleOverlay.{sample_means}
use Rattle.dt_model_laws.proofs.samples.sample_overlay.Goals as goal

pub returns : goal.returns
returns c = sample_means
