-- A front of the names passed.
use Rattle.std.proofs.Common.{◌≡◌, List, ℕ, ◌++◌, length}
use Rattle.dt_text_writer.specs.Written.{Puts}
use Rattle.dt_view.specs.Ways.{way_text, AreNodes}
use Rattle.dt_resolve_lines.proofs.paths.put_way.Given as goal

abbrev pub invariant-loop-node : goal.invariant-loop-node
invariant-loop-node g l =
    let t = g.V.TreeView.tree l.view in
    AreNodes t l.way × (front : List ℕ) × (way_text t l.initial.way ≡ front ++ way_text t l.way)
    × Puts g.S.Sink.taken front l.initial.writer l.writer

abbrev pub decreases-loop-node : goal.decreases-loop-node
decreases-loop-node g l = length l.way
