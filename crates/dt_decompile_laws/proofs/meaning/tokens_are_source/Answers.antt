use Rattle.dt_decompile_laws.proofs.SpelledTrees.{tokens_are_source}
use Rattle.dt_decompile_laws.proofs.meaning.tokens_are_source.Goals as goal

pub returns : goal.returns
returns c = tokens_are_source
