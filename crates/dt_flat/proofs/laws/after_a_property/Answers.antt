use Rattle.dt_flat.proofs.AfterProperty.{length-with_property, children-with_property, value-with_property}
use Rattle.dt_flat.proofs.laws.after_a_property.Goals as goal

pub returns-clause-count : goal.returns-clause-count
returns-clause-count c = length-with_property

pub returns-clause-children : goal.returns-clause-children
returns-clause-children c = children-with_property

pub returns-clause-values : goal.returns-clause-values
returns-clause-values c = value-with_property
