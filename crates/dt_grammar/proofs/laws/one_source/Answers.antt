use Rattle.dt_grammar.proofs.OneSource.{one_source}
use Rattle.dt_grammar.proofs.laws.one_source.Goals as goal

pub returns : goal.returns
returns c = one_source
