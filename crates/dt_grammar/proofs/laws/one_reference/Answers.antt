use Rattle.dt_grammar.proofs.OneSource.{one_reference}
use Rattle.dt_grammar.proofs.laws.one_reference.Goals as goal

pub returns : goal.returns
returns c = one_reference
