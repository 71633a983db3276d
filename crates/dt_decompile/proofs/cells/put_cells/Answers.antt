use Rattle.std.proofs.Common.{◌++◌}
use Rattle.std.specs.Prelude.{codes}
use Rattle.dt_model.specs.Printed.{hexadecimal, significant}
use Rattle.dt_decompile.specs.Pieces.{cells_behind}
use Rattle.dt_decompile.proofs.CellTexts.{cells_pieces}
use Rattle.dt_text_writer.proofs.Writing.{puts_then, exits_first, exits_at, puts_last, cut_last, turned}
use Rattle.dt_decompile.proofs.cells.put_cells.Goals as goal

pub returns-in_err-put_cell-clause-refused : goal.returns-in_err-put_cell-clause-refused
returns-in_err-put_cell-clause-refused g c =
    let s = c.in-Some in
    let e = cells_pieces c.args.cells.now s.first.now s.behind.now c.requires.whole c.requires.some s.ensures.cases.0 s.ensures.cases.1 in
    exits_first _ _ _ _ _ c.from_residual.ensures.1 e c.in_err-put_cell.ensures.refused

pub returns-in_err-put_cells_behind-clause-refused : goal.returns-in_err-put_cells_behind-clause-refused
returns-in_err-put_cells_behind-clause-refused g c =
    let s = c.in-Some in
    let e = cells_pieces c.args.cells.now s.first.now s.behind.now c.requires.whole c.requires.some s.ensures.cases.0 s.ensures.cases.1 in
    exits_at _ _ _ _ _ c.from_residual-in_err-put_cells_behind.ensures.1 e c.in_ok-put_cell.ensures.written c.in_err-put_cells_behind.ensures.refused

pub returns-clause-written : goal.returns-clause-written
returns-clause-written g c =
    let s = c.in-Some in
    let e = cells_pieces c.args.cells.now s.first.now s.behind.now c.requires.whole c.requires.some s.ensures.cases.0 s.ensures.cases.1 in
    puts_last _ _ _ _ (turned (codes " = <0x" ++ significant (hexadecimal s.first.now)) (cells_behind s.behind.now) (codes ">") e)
    (puts_then c.in_ok-put_cell.ensures.written c.in_ok-put_cells_behind.ensures.written) c.put.ensures.written

pub returns-clause-refused : goal.returns-clause-refused
returns-clause-refused g c =
    let s = c.in-Some in
    let e = cells_pieces c.args.cells.now s.first.now s.behind.now c.requires.whole c.requires.some s.ensures.cases.0 s.ensures.cases.1 in
    cut_last _ _ _ _ (turned (codes " = <0x" ++ significant (hexadecimal s.first.now)) (cells_behind s.behind.now) (codes ">") e)
    (puts_then c.in_ok-put_cell.ensures.written c.in_ok-put_cells_behind.ensures.written) c.put.ensures.refused
