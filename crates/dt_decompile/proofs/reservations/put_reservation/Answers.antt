use Rattle.std.proofs.Common.{◌≡◌, ◌++◌, ℕ, refl}
use Rattle.std.specs.Prelude.{codes}
use Rattle.std.specs.Int.{w64, to_be_bytes}
use Rattle.dt_model.specs.Printed.{hexadecimal, reservation_line}
use Rattle.dt_text_writer.proofs.Writing.{puts_then, exits_first, exits_at, puts_last, cut_last, turned}
use Rattle.dt_decompile.proofs.reservations.put_reservation.Goals as goal

regrouped : (address size : ℕ) → reservation_line (address, size)
    ≡ (codes "/memreserve/ 0x" ++ hexadecimal (to_be_bytes w64 address)) ++ ((codes " 0x" ++ hexadecimal (to_be_bytes w64 size)) ++ codes ";\n")
regrouped address size = refl

pub returns-in_err-put_number-clause-refused : goal.returns-in_err-put_number-clause-refused
returns-in_err-put_number-clause-refused g c =
    exits_first _ _ _ _ _ c.from_residual.ensures.1 (regrouped c.args.address c.args.size) c.in_err-put_number.ensures.refused

pub returns-in_err-put_number-2-clause-refused : goal.returns-in_err-put_number-2-clause-refused
returns-in_err-put_number-2-clause-refused g c =
    exits_at _ _ _ _ _ c.from_residual-in_err-put_number-2.ensures.1 (regrouped c.args.address c.args.size) c.in_ok-put_number.ensures.written c.in_err-put_number-2.ensures.refused

pub returns-clause-written : goal.returns-clause-written
returns-clause-written g c =
    puts_last _ _ _ _
    (turned (codes "/memreserve/ 0x" ++ hexadecimal (to_be_bytes w64 c.args.address)) (codes " 0x" ++ hexadecimal (to_be_bytes w64 c.args.size)) (codes ";\n") (regrouped c.args.address c.args.size))
    (puts_then c.in_ok-put_number.ensures.written c.in_ok-put_number-2.ensures.written) c.put.ensures.written

pub returns-clause-refused : goal.returns-clause-refused
returns-clause-refused g c =
    cut_last _ _ _ _
    (turned (codes "/memreserve/ 0x" ++ hexadecimal (to_be_bytes w64 c.args.address)) (codes " 0x" ++ hexadecimal (to_be_bytes w64 c.args.size)) (codes ";\n") (regrouped c.args.address c.args.size))
    (puts_then c.in_ok-put_number.ensures.written c.in_ok-put_number-2.ensures.written) c.put.ensures.refused
