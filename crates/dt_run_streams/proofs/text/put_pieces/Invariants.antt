-- The sink took the texts before the index.
use Rattle.std.proofs.Common.{◌≡◌, ℕ, List, ◌++◌, drop}
use Rattle.dt_names.specs.Sink.{Takes, joined}
use Rattle.dt_run_streams.proofs.text.put_pieces.Given as goal

abbrev pub invariant-loop-piece : goal.invariant-loop-piece
invariant-loop-piece g l =
    (front : List ℕ) × (joined l.pieces ≡ front ++ joined (drop l.piece-index l.pieces)) × Takes front (g.S.Sink.taken l.initial.sink) (g.S.Sink.taken l.sink)
