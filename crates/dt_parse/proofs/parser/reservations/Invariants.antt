use Rattle.std.proofs.Common.{◌≡◌, List, map, length}
use Rattle.dt_grammar.specs.Unchecked.{RawReserve, reserve_of}
use Rattle.dt_source_items.specs.Said.{reservation_said}
use Rattle.dt_parse.proofs.ReadReserves.{ReservesRead}
use Rattle.dt_parse.proofs.parser.reservations.Given as goal

abbrev pub invariant-reservations : goal.invariant-reservations
invariant-reservations l = (done : List RawReserve) × ReservesRead l.fn.cursor l.cursor done × (map reservation_said l.list.items ≡ map reserve_of done)

abbrev pub decreases-reservations : goal.decreases-reservations
decreases-reservations l = length l.cursor
