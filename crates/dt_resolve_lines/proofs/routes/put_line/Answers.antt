use Rattle.std.proofs.Common.{refl}
use Rattle.dt_text_writer.proofs.Writing.{puts_last, cut_last}
use Rattle.dt_resolve_lines.proofs.routes.put_line.Goals as goal

pub returns-clause-written : goal.returns-clause-written
returns-clause-written g c = puts_last _ _ _ _ refl c.in_ok-put_place.ensures.written c.put_route.ensures.written

pub returns-clause-refused : goal.returns-clause-refused
returns-clause-refused g c = cut_last _ _ _ _ refl c.in_ok-put_place.ensures.written c.put_route.ensures.refused
