-- The pairs so far, and those that are left.
use Rattle.std.proofs.Common.{◌≡◌, ◌++◌, map, drop}
use Rattle.dt_source_items.specs.Said.{reservation_said}
use Rattle.dt_source.proofs.building.pairs.Given as goal

abbrev pub invariant-loop-reservation : goal.invariant-loop-reservation
invariant-loop-reservation l = l.pairs.items ++ map reservation_said (drop l.reservation-index l.reservations) ≡ map reservation_said l.reservations
