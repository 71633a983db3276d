use Rattle.dt_parse.proofs.OneOutcome.{not_both, one_said, one_why}
use Rattle.dt_parse.proofs.laws.one_outcome.Goals as goal

pub returns-clause-said : goal.returns-clause-said
returns-clause-said c = one_said c.one_answer.ensures

pub returns-clause-only : goal.returns-clause-only
returns-clause-only c = not_both c.one_answer.ensures

pub returns-clause-fault : goal.returns-clause-fault
returns-clause-fault c = one_why c.one_answer.ensures
