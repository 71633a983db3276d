use Rattle.std.specs.Fmt.{digits}
use Rattle.std.proofs.Common.{refl}
use Rattle.dt_model.proofs.rows.overlay_with_a_written_fragment.Goals as goal

pub returns-clause-next : goal.returns-clause-next
unfolding digits
returns-clause-next c = refl

pub returns-clause-before : goal.returns-clause-before
unfolding digits
returns-clause-before c = refl

pub returns-clause-written : goal.returns-clause-written
unfolding digits
returns-clause-written c = refl
