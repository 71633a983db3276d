use Rattle.std.proofs.Common.{refl}
use Rattle.dt_resolve_model.specs.Specifiers.{provided}
use Rattle.dt_resolve_model.proofs.rows.specifiers_through_a_connector.Goals as goal

pub returns-clause-mapped : goal.returns-clause-mapped
unfolding provided
returns-clause-mapped c = refl

pub returns-clause-direct : goal.returns-clause-direct
unfolding provided
returns-clause-direct c = refl

pub returns-clause-masked : goal.returns-clause-masked
unfolding provided
returns-clause-masked c = refl

pub returns-clause-no_row : goal.returns-clause-no_row
unfolding provided
returns-clause-no_row c = refl

pub returns-clause-no_entry : goal.returns-clause-no_entry
unfolding provided
returns-clause-no_entry c = refl

pub returns-clause-absent : goal.returns-clause-absent
unfolding provided
returns-clause-absent c = refl

pub returns-clause-other_kind : goal.returns-clause-other_kind
unfolding provided
returns-clause-other_kind c = refl

pub returns-clause-mapped_meant : goal.returns-clause-mapped_meant
unfolding provided
returns-clause-mapped_meant c = refl

pub returns-clause-direct_meant : goal.returns-clause-direct_meant
unfolding provided
returns-clause-direct_meant c = refl

pub returns-clause-no_row_meant : goal.returns-clause-no_row_meant
unfolding provided
returns-clause-no_row_meant c = refl
