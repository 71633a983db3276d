use Rattle.dt_flat.proofs.AfterChild.{child-with_child, properties-with_child, bare-with_child}
use Rattle.dt_flat.proofs.laws.after_a_child.Goals as goal

pub returns-clause-children : goal.returns-clause-children
returns-clause-children c = child-with_child

pub returns-clause-properties : goal.returns-clause-properties
returns-clause-properties c = properties-with_child

pub returns-clause-bare : goal.returns-clause-bare
returns-clause-bare c = bare-with_child
