-- What is left has the wanted reservation, where all have it.
use Rattle.std.proofs.Common.{◌≡◌}
use Rattle.std.specs.List.{slice_get}
use Rattle.dt_read.specs.Checked.{placed_of}
use Rattle.dt_c.proofs.looking.dtool_reservation.Given as goal

abbrev pub invariant-loop-address : goal.invariant-loop-address
invariant-loop-address l =
    goal.iterator-loop-address.can_next l.address-iterator × goal.iterator-loop-address.is_finite l.address-iterator
    × (slice_get l.address-iterator l.before ≡ slice_get (placed_of l.bytes).reservations l.index) × (l.out ≡ l.initial.out)
