use Rattle.std.proofs.Common.{refl, inl}
use Rattle.dt_resolve_model.specs.Answers.{answer, undetermined}
use Rattle.dt_resolve_model.specs.Interrupts.{routed}
use Rattle.dt_resolve_model.specs.Rows.{controller}
use Rattle.dt_resolve_model.proofs.rows.numbers_used_as_phandles.Goals as goal

pub returns-clause-tree : goal.returns-clause-tree
unfolding routed
returns-clause-tree c = (_, (answer controller, inl (2, refl), refl), refl)

pub returns-clause-open : goal.returns-clause-open
unfolding routed
returns-clause-open c = (_, (undetermined, inl (2, refl), refl), refl)

pub returns-clause-written : goal.returns-clause-written
unfolding routed
returns-clause-written c = (_, (answer controller, inl (2, refl), refl), refl)
