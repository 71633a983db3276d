use Rattle.dt_resolve_lines.proofs.OneListing.{one_list, first_lines}
use Rattle.dt_resolve_lines.proofs.laws.one_listing.Goals as goal

pub returns-clause-lines : goal.returns-clause-lines
returns-clause-lines c = λ listing bytes lines others are these. one_list c.one_answer.ensures.read listing bytes lines others are these

pub returns-clause-first : goal.returns-clause-first
returns-clause-first c = λ listing bytes some all begun are. first_lines c.one_answer.ensures.read listing bytes some all begun are

pub returns-clause-only : goal.returns-clause-only
returns-clause-only c = λ listing bytes lines f at are first. c.one_answer.ensures.only bytes are.tree f at are.reads are.within first
