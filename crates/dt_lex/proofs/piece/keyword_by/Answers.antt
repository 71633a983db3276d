use Rattle.dt_lex.proofs.Decided.{memreserve, bits}
use Rattle.dt_lex.proofs.piece.keyword_by.Goals as goal

pub returns-in-109 : goal.returns-in-109
returns-in-109 c = memreserve c.args.second c.in-109.is

pub returns-in-98 : goal.returns-in-98
returns-in-98 c = bits c.args.second c.in-98.is
