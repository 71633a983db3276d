use Rattle.dt_model_laws.proofs.Plain.{source_plain}
use Rattle.dt_model_laws.proofs.Meanings.{source_meaning}
use Rattle.dt_model_laws.proofs.sources.source_is_a_meaning.Goals as goal

pub returns-clause-meaning : goal.returns-clause-meaning
returns-clause-meaning c = source_meaning

pub returns-clause-plain : goal.returns-clause-plain
returns-clause-plain c = source_plain
