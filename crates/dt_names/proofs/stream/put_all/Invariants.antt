-- What is gone from `rest` was taken, and once something is gone, the sink hasn't failed.
use Rattle.std.proofs.Common.{◌≡◌, ℕ, ◌<◌, List, ◌++◌, length, false}
use Rattle.dt_names.specs.Sink.{Takes}
use Rattle.dt_names.proofs.stream.put_all.Given as goal

abbrev pub invariant-loop-rest : goal.invariant-loop-rest
invariant-loop-rest g l =
    (front : List ℕ) × (l.initial.rest ≡ front ++ l.rest) × Takes front (g.S.Sink.taken l.initial.sink) (g.S.Sink.taken l.sink)
    × (length l.rest < length l.initial.rest → (g.S.Sink.taken l.sink).has_failed ≡ false)

abbrev pub decreases-loop-rest : goal.decreases-loop-rest
decreases-loop-rest g l = length l.rest
