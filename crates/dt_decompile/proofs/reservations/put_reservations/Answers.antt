use Rattle.std.proofs.Common.{◌++◌, ◌∙◌, List, ℕ, ap, rules}
use Rattle.dt_model.specs.Printed.{reservation_line, reservation_lines}
use Rattle.dt_text_writer.proofs.Writing.{puts_then, exits_at, turned}
use Rattle.dt_decompile.proofs.reservations.put_reservations.Goals as goal

pub returns-in_err-put_reservation-clause-refused : goal.returns-in_err-put_reservation-clause-refused
returns-in_err-put_reservation-clause-refused g c =
    let (can, finite, front, split, passed) = c.loop-address.invariant in
    exits_at _ _ _ _ _ c.from_residual.ensures.1 (split ∙ ap (λ (l : List (ℕ × ℕ)). front ++ reservation_lines l) c.in-Some.ensures.steps)
    passed c.in_err-put_reservation.ensures.refused

pub loop-address-preserved : goal.loop-address-preserved
loop-address-preserved g c =
    let (can, finite, front, split, passed) = c.loop-address.invariant in (
      search rules,
      search rules,
      front ++ reservation_line (c.in-Some.address, c.in-Some.size),
      turned front (reservation_line (c.in-Some.address, c.in-Some.size)) (reservation_lines c.next.new.self)
          (split ∙ ap (λ (l : List (ℕ × ℕ)). front ++ reservation_lines l) c.in-Some.ensures.steps),
      puts_then passed c.in_ok-put_reservation.ensures.written,
    )
