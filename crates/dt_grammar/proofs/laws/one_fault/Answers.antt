use Rattle.std.proofs.Common.{refl}
use Rattle.dt_grammar.proofs.OneFault.{one}
use Rattle.dt_grammar.proofs.laws.one_fault.Goals as goal

pub returns : goal.returns
returns c ws left rest k j a b = one refl a b
