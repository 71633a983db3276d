use Rattle.std.proofs.Common.{sym}
use Rattle.std.proofs.lemmas.List.{take_rest}
use Rattle.dt_read.proofs.PairLemmas.{pairs_last, pairs_later, pairs_none}
use Rattle.dt_read.proofs.reservations.first_pair.Goals as goal

pub returns-in_default-clause-pairs : goal.returns-in_default-clause-pairs
returns-in_default-clause-pairs c = pairs_none c.args.bytes.now (sym c.in_default.ensures.pair)

pub returns-then-is_last-clause-pairs : goal.returns-then-is_last-clause-pairs
returns-then-is_last-clause-pairs c = pairs_last c.args.bytes.now c.in-Some.pair (sym c.in-Some.ensures.pair) c.if-is_last.ensures

pub returns-clause-pairs : goal.returns-clause-pairs
returns-clause-pairs c = rw (take_rest c.args.bytes.now 16) (pairs_later c.args.bytes.now c.in-Some.pair (sym c.in-Some.ensures.pair) c.if-is_last.ensures)
