use Rattle.dt_lex.proofs.OneOutcome.{lexed_or_not, one_fault}
use Rattle.dt_lex.proofs.laws.one_outcome.Goals as goal

pub returns-clause-only : goal.returns-clause-only
returns-clause-only c = lexed_or_not

pub returns-clause-fault : goal.returns-clause-fault
returns-clause-fault c = one_fault
