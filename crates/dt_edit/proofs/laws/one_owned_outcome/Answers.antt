use Rattle.dt_edit.specs.Editable.{opened_size}
use Rattle.dt_edit.proofs.Outcomes.{owned_or, one_owning, set_owned_or, one_setting_owned, added_owned_or, one_adding_owned}
use Rattle.dt_edit.proofs.laws.one_owned_outcome.Goals as goal

pub returns-clause-made : goal.returns-clause-made
returns-clause-made c = λ blob. owned_or (opened_size blob)

pub returns-clause-one_of_making : goal.returns-clause-one_of_making
returns-clause-one_of_making c = λ blob. one_owning (opened_size blob)

pub returns-clause-set : goal.returns-clause-set
returns-clause-set c = set_owned_or

pub returns-clause-one_of_setting : goal.returns-clause-one_of_setting
returns-clause-one_of_setting c = one_setting_owned

pub returns-clause-added : goal.returns-clause-added
returns-clause-added c = added_owned_or

pub returns-clause-one_of_adding : goal.returns-clause-one_of_adding
returns-clause-one_of_adding c = one_adding_owned
