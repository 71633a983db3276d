use Rattle.dt_grammar.proofs.SmallSources.{empty_root_is, unended_root_is_none, property_behind_child_is_none, small_source_is}
use Rattle.dt_grammar.proofs.laws.small_sources.Goals as goal

pub returns : goal.returns
returns c = record { empty = empty_root_is; unended = unended_root_is_none; disordered = property_behind_child_is_none; small = small_source_is }
