use Rattle.dt_grammar.proofs.ValidPlaces.{source_valid}
use Rattle.dt_grammar.proofs.laws.source_has_places.Goals as goal

pub returns : goal.returns
returns c = source_valid
