use Rattle.std.specs.Fmt.{digits}
use Rattle.std.proofs.Common.{refl}
use Rattle.dt_model.proofs.rows.overlay_with_two_cells.Goals as goal

pub returns-clause-target : goal.returns-clause-target
unfolding digits
returns-clause-target c = refl

pub returns-clause-outside : goal.returns-clause-outside
unfolding digits
returns-clause-outside c = refl

pub returns-clause-inside : goal.returns-clause-inside
unfolding digits
returns-clause-inside c = refl

pub returns-clause-label : goal.returns-clause-label
unfolding digits
returns-clause-label c = refl

pub returns-clause-keyed : goal.returns-clause-keyed
unfolding digits
returns-clause-keyed c = refl
