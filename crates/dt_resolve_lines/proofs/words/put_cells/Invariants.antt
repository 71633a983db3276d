-- A front of the cells passed.
use Rattle.std.proofs.Common.{◌≡◌, List, ℕ, ◌++◌, drop}
use Rattle.dt_text_writer.specs.Written.{Puts}
use Rattle.dt_resolve_lines.specs.Lines.{cells_words}
use Rattle.dt_resolve_lines.proofs.words.put_cells.Given as goal

abbrev pub invariant-loop-cell : goal.invariant-loop-cell
invariant-loop-cell g l =
    (front : List ℕ) × (cells_words l.cells ≡ front ++ cells_words (drop l.cell-index l.cells))
    × Puts g.S.Sink.taken front l.initial.writer l.writer
