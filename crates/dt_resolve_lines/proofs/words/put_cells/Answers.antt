use Rattle.std.proofs.Common.{◌++◌, [], ◌∙◌, ◌+◌, List, ℕ, codes, drop, ap}
use Rattle.std.proofs.lemmas.List.{at_drop_more}
use Rattle.dt_text_writer.proofs.Writing.{puts_then, exits_at, turned}
use Rattle.dt_resolve_lines.specs.Lines.{cells_words}
use Rattle.dt_resolve_lines.proofs.WordTexts.{cell_text}
use Rattle.dt_resolve_lines.proofs.words.put_cells.Goals as goal

pub returns-in_err-put_pieces-clause-refused : goal.returns-in_err-put_pieces-clause-refused
returns-in_err-put_pieces-clause-refused g c =
    let (front, split, passed) = c.loop-cell.invariant in
    let k = c.loop-cell.cell-index in
    let cell = cell_text _ c.digits_of_cell-digits.result c.without_zeros.result.now c.digits_of_cell-digits.ensures c.without_zeros.ensures in
    exits_at _ _ _ _ (cells_words (drop (k + 1) c.args.cells.now)) c.from_residual.ensures.1
    (split ∙ ap (λ (l : List ℕ). front ++ l) (at_drop_more cells_words c.args.cells.now k _ c.loop-cell-test.true ∙ ap (λ (l : List ℕ). l ++ cells_words (drop (k + 1) c.args.cells.now)) cell)) passed c.in_err-put_pieces.ensures.refused

pub loop-cell-preserved : goal.loop-cell-preserved
loop-cell-preserved g c =
    let (front, split, passed) = c.loop-cell.invariant in
    let k = c.loop-cell.cell-index in
    let cell = cell_text _ c.digits_of_cell-digits.result c.without_zeros.result.now c.digits_of_cell-digits.ensures c.without_zeros.ensures in
    let piece = codes " 0x" ++ (c.without_zeros.result.now ++ []) in (
      front ++ piece,
      turned front piece (cells_words (drop (k + 1) c.args.cells.now))
          (split ∙ ap (λ (l : List ℕ). front ++ l) (at_drop_more cells_words c.args.cells.now k _ c.loop-cell-test.true ∙ ap (λ (l : List ℕ). l ++ cells_words (drop (k + 1) c.args.cells.now)) cell)),
      puts_then passed c.in_ok-put_pieces.ensures.written,
    )
