use Rattle.std.proofs.Common.{length}
use Rattle.dt_edit.specs.Editable.{opened_size}
use Rattle.dt_edit.proofs.Outcomes.{opened_or, one_opening, set_or, one_setting, patched_or, one_patching, added_or, one_adding}
use Rattle.dt_edit.proofs.laws.one_outcome.Goals as goal

pub returns-clause-opened : goal.returns-clause-opened
returns-clause-opened c = λ blob bytes. opened_or bytes (opened_size blob)

pub returns-clause-one_of_opening : goal.returns-clause-one_of_opening
returns-clause-one_of_opening c = λ blob bytes. one_opening bytes (opened_size blob)

pub returns-clause-set : goal.returns-clause-set
returns-clause-set c = λ bytes. set_or (length bytes) bytes

pub returns-clause-one_of_setting : goal.returns-clause-one_of_setting
returns-clause-one_of_setting c = λ bytes. one_setting (length bytes) bytes

pub returns-clause-added : goal.returns-clause-added
returns-clause-added c = λ bytes. added_or (length bytes) bytes

pub returns-clause-one_of_adding : goal.returns-clause-one_of_adding
returns-clause-one_of_adding c = λ bytes. one_adding (length bytes) bytes

pub returns-clause-patched : goal.returns-clause-patched
returns-clause-patched c = patched_or

pub returns-clause-one_of_patching : goal.returns-clause-one_of_patching
returns-clause-one_of_patching c = one_patching
