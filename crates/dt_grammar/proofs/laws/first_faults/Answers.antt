use Rattle.dt_grammar.proofs.SampleFaults.{first_faults}
use Rattle.dt_grammar.proofs.laws.first_faults.Goals as goal

pub returns : goal.returns
returns c = first_faults
