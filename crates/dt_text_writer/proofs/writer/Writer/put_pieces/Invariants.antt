-- A front of the pieces passed.
use Rattle.std.proofs.Common.{◌≡◌, List, ℕ, ◌++◌, drop}
use Rattle.dt_text_writer.specs.Written.{Puts}
use Rattle.dt_names.specs.Sink.{joined}
use Rattle.dt_text_writer.proofs.writer.Writer.put_pieces.Given as goal

abbrev pub invariant-loop-piece : goal.invariant-loop-piece
invariant-loop-piece g l =
    (front : List ℕ) × (joined l.pieces ≡ front ++ joined (drop l.piece-index l.pieces))
    × Puts g.S.Sink.taken front l.initial.self l.self
