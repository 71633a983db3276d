use Rattle.dt_source.proofs.Outcomes.{built_not_refused, refused_once}
use Rattle.dt_source.proofs.laws.one_outcome.Goals as goal

pub returns-clause-built : goal.returns-clause-built
returns-clause-built c = built_not_refused c.named_is_not_refused.ensures

pub returns-clause-refused : goal.returns-clause-refused
returns-clause-refused c = refused_once c.refusal_is_one.ensures
