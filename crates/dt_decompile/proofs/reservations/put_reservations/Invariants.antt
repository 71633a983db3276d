-- A front of the lines passed.
use Rattle.std.proofs.Common.{◌≡◌, List, ℕ, ◌++◌}
use Rattle.dt_model.specs.Printed.{reservation_lines}
use Rattle.dt_text_writer.specs.Written.{Puts}
use Rattle.dt_decompile.proofs.reservations.put_reservations.Given as goal

abbrev pub invariant-loop-address : goal.invariant-loop-address
invariant-loop-address g l =
    (goal.iterator-loop-address g).can_next l.address-iterator × (goal.iterator-loop-address g).is_finite l.address-iterator
    × (front : List ℕ) × (reservation_lines l.fn.reservations ≡ front ++ reservation_lines l.address-iterator)
    × Puts g.S.Sink.taken front l.initial.writer l.writer
