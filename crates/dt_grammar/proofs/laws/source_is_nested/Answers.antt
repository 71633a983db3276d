use Rattle.dt_grammar.proofs.NestedPlaces.{source_nests, source_says, source_reserves}
use Rattle.dt_grammar.proofs.laws.source_is_nested.Goals as goal

pub returns : goal.returns
returns c = record { nested = source_nests; some = source_says; reservations = source_reserves }
