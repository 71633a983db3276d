use Rattle.std.proofs.Common.{sym, ◌∙◌}
use Rattle.std.proofs.lemmas.List.{take_rest}
use Rattle.dt_read.proofs.PairLemmas.{ends_last, ends_later, ends_none}
use Rattle.dt_read.proofs.reservations.have_end.Goals as goal

pub returns-then-is_last : goal.returns-then-is_last
returns-then-is_last c = sym (sym c.loop-pair.invariant ∙ ends_last c.loop-pair.rest.now c.in-Some.pair (sym c.in-Some.ensures.pair) c.if-is_last.ensures)

pub loop-pair-preserved : goal.loop-pair-preserved
loop-pair-preserved c = rw (take_rest c.loop-pair.rest.now 16) (sym (ends_later c.loop-pair.rest.now c.in-Some.pair (sym c.in-Some.ensures.pair) c.if-is_last.ensures) ∙ c.loop-pair.invariant)

pub returns : goal.returns
returns c = sym (sym c.loop-pair.invariant ∙ ends_none c.loop-pair.rest.now (sym c.in_default.ensures.pair))
