use Rattle.dt_flat.proofs.Changing.{child_by_path, property_by_path}
use Rattle.dt_flat.proofs.laws.changes_by_path.Goals as goal

pub returns-clause-child : goal.returns-clause-child
returns-clause-child c = child_by_path

pub returns-clause-property : goal.returns-clause-property
returns-clause-property c = property_by_path
