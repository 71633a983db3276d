use Rattle.std.proofs.Common.{refl}
use Rattle.dt_grammar.proofs.Sound.{none_goes_on}
use Rattle.dt_grammar.proofs.Unbroken.{syntax_stuck}
use Rattle.dt_grammar.proofs.laws.syntax_is_where_none_goes_on.Goals as goal

pub returns : goal.returns
returns c ws left b = none_goes_on ws left (syntax_stuck b refl)
