use Rattle.dt_grammar.proofs.UnbrokenSources.{no_fault}
use Rattle.dt_grammar.proofs.laws.source_has_no_fault.Goals as goal

pub returns : goal.returns
returns c = no_fault
