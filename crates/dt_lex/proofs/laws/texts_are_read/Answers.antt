use Rattle.dt_lex.proofs.ValueLemmas.{text_read, character_read}
use Rattle.dt_lex.proofs.laws.texts_are_read.Goals as goal

pub returns-clause-texts : goal.returns-clause-texts
returns-clause-texts c = text_read

pub returns-clause-characters : goal.returns-clause-characters
returns-clause-characters c = character_read
