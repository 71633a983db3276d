use Rattle.std.proofs.Common.{refl, inl}
use Rattle.dt_resolve_model.specs.Answers.{answer}
use Rattle.dt_resolve_model.specs.Interrupts.{routed}
use Rattle.dt_resolve_model.specs.Rows.{controller, below_root}
use Rattle.std.specs.Prelude.{codes}
use Rattle.dt_resolve_model.proofs.rows.routes_through_a_nexus.Goals as goal

pub returns-clause-mapped : goal.returns-clause-mapped
unfolding routed
returns-clause-mapped c = (_, (answer (below_root (codes "nexus")), inl (1, refl), refl), refl)

pub returns-clause-direct : goal.returns-clause-direct
unfolding routed
returns-clause-direct c = (_, (answer controller, inl (2, refl), refl), refl)

pub returns-clause-extended : goal.returns-clause-extended
unfolding routed
returns-clause-extended c = (_, refl, refl)

pub returns-clause-mapped_meant : goal.returns-clause-mapped_meant
unfolding routed
returns-clause-mapped_meant c = (_, (answer (below_root (codes "nexus")), inl (1, refl), refl), refl)

pub returns-clause-direct_meant : goal.returns-clause-direct_meant
unfolding routed
returns-clause-direct_meant c = (_, (answer controller, inl (2, refl), refl), refl)

pub returns-clause-extended_meant : goal.returns-clause-extended_meant
unfolding routed
returns-clause-extended_meant c = (_, refl, refl)
