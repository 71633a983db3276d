-- A front of the cells passed.
use Rattle.std.proofs.Common.{◌≡◌, List, ℕ, ◌++◌, length}
use Rattle.dt_decompile.specs.Pieces.{cells_behind}
use Rattle.dt_text_writer.specs.Written.{Puts}
use Rattle.dt_decompile.proofs.cells.put_cells_behind.Given as goal

abbrev pub invariant-loop-cell : goal.invariant-loop-cell
invariant-loop-cell g l =
    (front : List ℕ) × (cells_behind l.cells ≡ front ++ cells_behind l.rest)
    × Puts g.S.Sink.taken front l.initial.writer l.writer

abbrev pub decreases-loop-cell : goal.decreases-loop-cell
decreases-loop-cell g l = length l.rest
