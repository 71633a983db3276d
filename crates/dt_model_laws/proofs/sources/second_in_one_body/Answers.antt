use Rattle.dt_model_laws.proofs.Seconds.{second_property, second_child}
use Rattle.dt_model_laws.proofs.sources.second_in_one_body.Goals as goal

pub returns-clause-property : goal.returns-clause-property
returns-clause-property c = second_property

pub returns-clause-child : goal.returns-clause-child
returns-clause-child c = second_child
