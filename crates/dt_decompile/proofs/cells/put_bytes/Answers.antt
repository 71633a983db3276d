use Rattle.std.proofs.Common.{◌++◌, [], ◌∷◌}
use Rattle.std.specs.Prelude.{codes}
use Rattle.dt_model.specs.Printed.{hexadecimal}
use Rattle.dt_decompile.specs.Pieces.{bytes_behind}
use Rattle.dt_decompile.proofs.CellTexts.{bytes_pieces}
use Rattle.dt_text_writer.proofs.Writing.{puts_then, exits_first, exits_at, puts_last, cut_last, turned}
use Rattle.dt_decompile.proofs.cells.put_bytes.Goals as goal

pub returns-in_err-put_byte-clause-refused : goal.returns-in_err-put_byte-clause-refused
returns-in_err-put_byte-clause-refused g c =
    let s = c.in-Some in
    let e = bytes_pieces c.args.bytes.now s.first.now s.behind.now s.ensures.cases.0 in
    exits_first _ _ _ _ _ c.from_residual.ensures.1 e c.in_err-put_byte.ensures.refused

pub returns-in_err-put_bytes_behind-clause-refused : goal.returns-in_err-put_bytes_behind-clause-refused
returns-in_err-put_bytes_behind-clause-refused g c =
    let s = c.in-Some in
    let e = bytes_pieces c.args.bytes.now s.first.now s.behind.now s.ensures.cases.0 in
    exits_at _ _ _ _ _ c.from_residual-in_err-put_bytes_behind.ensures.1 e c.in_ok-put_byte.ensures.written c.in_err-put_bytes_behind.ensures.refused

pub returns-clause-written : goal.returns-clause-written
returns-clause-written g c =
    let s = c.in-Some in
    let e = bytes_pieces c.args.bytes.now s.first.now s.behind.now s.ensures.cases.0 in
    puts_last _ _ _ _ (turned (codes " = [" ++ hexadecimal (s.first.now ∷ [])) (bytes_behind s.behind.now) (codes "]") e)
    (puts_then c.in_ok-put_byte.ensures.written c.in_ok-put_bytes_behind.ensures.written) c.put.ensures.written

pub returns-clause-refused : goal.returns-clause-refused
returns-clause-refused g c =
    let s = c.in-Some in
    let e = bytes_pieces c.args.bytes.now s.first.now s.behind.now s.ensures.cases.0 in
    cut_last _ _ _ _ (turned (codes " = [" ++ hexadecimal (s.first.now ∷ [])) (bytes_behind s.behind.now) (codes "]") e)
    (puts_then c.in_ok-put_byte.ensures.written c.in_ok-put_bytes_behind.ensures.written) c.put.ensures.refused
