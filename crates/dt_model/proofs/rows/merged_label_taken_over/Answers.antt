use Rattle.std.specs.Fmt.{digits}
use Rattle.std.proofs.Common.{refl}
use Rattle.dt_model.proofs.rows.merged_label_taken_over.Goals as goal

pub returns-clause-label : goal.returns-clause-label
unfolding digits
returns-clause-label c = refl

pub returns-clause-reference : goal.returns-clause-reference
unfolding digits
returns-clause-reference c = refl

pub returns-clause-both : goal.returns-clause-both
unfolding digits
returns-clause-both c = refl
