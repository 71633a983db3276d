use Rattle.std.proofs.Common.{refl}
use Rattle.std.specs.Prelude.{codes}
use Rattle.dt_model.specs.Printed.{reservation_lines}
use Rattle.dt_decompile.specs.Lines.{lines_of}
use Rattle.dt_decompile.proofs.LineTexts.{printed_pieces, few_opened}
use Rattle.dt_text_writer.proofs.Writing.{puts_then, exits_first, exits_at, puts_last, cut_last, turned}
use Rattle.dt_decompile.proofs.text.put_text.Goals as goal

pub returns-in_err-put-clause-refused : goal.returns-in_err-put-clause-refused
returns-in_err-put-clause-refused g c =
    exits_first _ _ _ _ _ c.from_residual.ensures.1 (printed_pieces c.args.blob.now _ _ refl refl) c.in_err-put.ensures.refused

pub returns-in_err-put_reservations-clause-refused : goal.returns-in_err-put_reservations-clause-refused
returns-in_err-put_reservations-clause-refused g c =
    exits_at _ _ _ _ _ c.from_residual-in_err-put_reservations.ensures.1 (printed_pieces c.args.blob.now c.reservations.result _ c.reservations.ensures refl)
    c.in_ok-put.ensures.written c.in_err-put_reservations.ensures.refused

pub put_steps-requires : goal.put_steps-requires
put_steps-requires g c = few_opened c.args.blob.now c.steps.result c.steps.ensures c.validity.ensures.within.count

pub returns-clause-written : goal.returns-clause-written
returns-clause-written g c =
    puts_last _ _ _ _
    (turned (codes "/dts-v1/;\n") (reservation_lines c.reservations.result) (lines_of 0 c.steps.result)
    (printed_pieces c.args.blob.now c.reservations.result c.steps.result c.reservations.ensures c.steps.ensures))
    (puts_then c.in_ok-put.ensures.written c.in_ok-put_reservations.ensures.written) c.put_steps.ensures.written

pub returns-clause-refused : goal.returns-clause-refused
returns-clause-refused g c =
    cut_last _ _ _ _
    (turned (codes "/dts-v1/;\n") (reservation_lines c.reservations.result) (lines_of 0 c.steps.result)
    (printed_pieces c.args.blob.now c.reservations.result c.steps.result c.reservations.ensures c.steps.ensures))
    (puts_then c.in_ok-put.ensures.written c.in_ok-put_reservations.ensures.written) c.put_steps.ensures.refused
