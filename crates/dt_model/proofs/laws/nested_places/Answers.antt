use Rattle.dt_model.proofs.Nested.{never_misplaced, closes_all}
use Rattle.dt_model.proofs.laws.nested_places.Goals as goal

pub returns-clause-placed : goal.returns-clause-placed
returns-clause-placed c = never_misplaced

pub returns-clause-closed : goal.returns-clause-closed
returns-clause-closed c = closes_all
