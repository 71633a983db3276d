-- A front of the bytes passed.
use Rattle.std.proofs.Common.{◌≡◌, List, ℕ, ◌++◌, drop}
use Rattle.dt_decompile.specs.Pieces.{bytes_behind}
use Rattle.dt_text_writer.specs.Written.{Puts}
use Rattle.dt_decompile.proofs.cells.put_bytes_behind.Given as goal

abbrev pub invariant-loop-byte : goal.invariant-loop-byte
invariant-loop-byte g l =
    (front : List ℕ) × (bytes_behind l.bytes ≡ front ++ bytes_behind (drop l.byte-index l.bytes))
    × Puts g.S.Sink.taken front l.initial.writer l.writer
