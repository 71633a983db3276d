use Rattle.std.specs.Fmt.{digits}
use Rattle.std.proofs.Common.{refl}
use Rattle.dt_model.proofs.rows.overlay_with_a_label_of_its_own.Goals as goal

pub returns-clause-first : goal.returns-clause-first
unfolding digits
returns-clause-first c = refl

pub returns-clause-second : goal.returns-clause-second
unfolding digits
returns-clause-second c = refl

pub returns-clause-no_third : goal.returns-clause-no_third
unfolding digits
returns-clause-no_third c = refl

pub returns-clause-target : goal.returns-clause-target
unfolding digits
returns-clause-target c = refl
