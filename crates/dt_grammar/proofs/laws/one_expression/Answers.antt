use Rattle.dt_grammar.proofs.Expressions.{one_reading}
use Rattle.dt_grammar.proofs.laws.one_expression.Goals as goal

pub returns : goal.returns
returns c = one_reading
