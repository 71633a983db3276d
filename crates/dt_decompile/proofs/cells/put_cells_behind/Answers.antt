use Rattle.std.proofs.Common.{◌++◌, ◌∙◌, List, ℕ, refl, ap}
use Rattle.std.specs.Prelude.{codes}
use Rattle.dt_model.specs.Printed.{hexadecimal, significant}
use Rattle.dt_decompile.specs.Pieces.{cells_behind}
use Rattle.dt_decompile.proofs.CellTexts.{cell_step}
use Rattle.dt_text_writer.proofs.Writing.{puts_then, exits_at, turned}
use Rattle.dt_decompile.proofs.cells.put_cells_behind.Goals as goal

pub returns-in_err-put_cell-clause-refused : goal.returns-in_err-put_cell-clause-refused
returns-in_err-put_cell-clause-refused g c =
    let (front, split, passed) = c.loop-cell.invariant in
    let s = c.in-Some in
    let step = cell_step c.loop-cell.rest.now s.cell.now s.behind.now (s.ensures.variant.0 refl) s.ensures.cases.0 s.ensures.cases.1 in
    exits_at _ _ _ _ _ c.from_residual.ensures.1 (split ∙ ap (λ (l : List ℕ). front ++ l) step) passed c.in_err-put_cell.ensures.refused

pub loop-cell-preserved : goal.loop-cell-preserved
loop-cell-preserved g c =
    let (front, split, passed) = c.loop-cell.invariant in
    let s = c.in-Some in
    let step = cell_step c.loop-cell.rest.now s.cell.now s.behind.now (s.ensures.variant.0 refl) s.ensures.cases.0 s.ensures.cases.1 in
    let piece = codes " 0x" ++ significant (hexadecimal s.cell.now) in (
      front ++ piece,
      turned front piece (cells_behind s.behind.now) (split ∙ ap (λ (l : List ℕ). front ++ l) step),
      puts_then passed c.in_ok-put_cell.ensures.written,
    )
