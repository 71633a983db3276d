use Rattle.dt_grammar.proofs.OneSource.{one_value}
use Rattle.dt_grammar.proofs.laws.one_value.Goals as goal

pub returns : goal.returns
returns c = one_value
