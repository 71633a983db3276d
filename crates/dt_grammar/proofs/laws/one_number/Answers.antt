use Rattle.dt_grammar.proofs.OneSource.{one_number}
use Rattle.dt_grammar.proofs.laws.one_number.Goals as goal

pub returns : goal.returns
returns c = one_number
