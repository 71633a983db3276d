use Rattle.dt_grammar.proofs.Headers.{one_relaxed}
use Rattle.dt_grammar.proofs.laws.one_relaxed.Goals as goal

pub returns : goal.returns
returns c = one_relaxed
