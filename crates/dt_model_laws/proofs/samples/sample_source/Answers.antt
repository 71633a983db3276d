use Rattle.dt_model_laws.proofs.SampleSource.{sample_means}
use Rattle.dt_model_laws.proofs.samples.sample_source.Goals as goal

pub returns : goal.returns
returns c = sample_means
