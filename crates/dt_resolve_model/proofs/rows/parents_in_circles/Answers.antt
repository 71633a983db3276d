use Rattle.std.proofs.Common.{refl, inr}
use Rattle.dt_names.specs.declared.fault.FaultKind.TheVariants.{Loop}
use Rattle.dt_resolve_model.specs.Answers.{refuse}
use Rattle.dt_resolve_model.proofs.Circles.{told_round, told_root, meant_round, meant_root}
use Rattle.dt_resolve_model.proofs.rows.parents_in_circles.Goals as goal

pub returns-clause-two : goal.returns-clause-two
returns-clause-two c = (_, (refuse Loop, inr (refl, told_round), refl), refl)

pub returns-clause-root : goal.returns-clause-root
returns-clause-root c = (_, (refuse Loop, inr (refl, told_root), refl), refl)

pub returns-clause-two_meant : goal.returns-clause-two_meant
returns-clause-two_meant c = (_, (refuse Loop, inr (refl, meant_round), refl), refl)

pub returns-clause-root_meant : goal.returns-clause-root_meant
returns-clause-root_meant c = (_, (refuse Loop, inr (refl, meant_root), refl), refl)
