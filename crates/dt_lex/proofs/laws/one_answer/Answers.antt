use Rattle.dt_lex.proofs.Lexed.{unique}
use Rattle.dt_lex.proofs.laws.one_answer.Goals as goal

pub returns : goal.returns
returns c text a b l k = unique l k
