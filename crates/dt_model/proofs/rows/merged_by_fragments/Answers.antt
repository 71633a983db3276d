use Rattle.std.specs.Fmt.{digits}
use Rattle.std.proofs.Common.{refl}
use Rattle.dt_model.proofs.rows.merged_by_fragments.Goals as goal

pub returns-clause-value : goal.returns-clause-value
unfolding digits
returns-clause-value c = refl

pub returns-clause-label : goal.returns-clause-label
unfolding digits
returns-clause-label c = refl

pub returns-clause-keyed : goal.returns-clause-keyed
unfolding digits
returns-clause-keyed c = refl

pub returns-clause-no_fragment : goal.returns-clause-no_fragment
unfolding digits
returns-clause-no_fragment c = refl
