-- The names up to here and those on the way are the whole path's.
use Rattle.std.specs.Prelude.{◌≡◌, ◌+◌, ◌++◌, length}
use Rattle.dt_trees.specs.Placed.{path_at, IsNode}
use Rattle.dt_view.specs.Ways.{names_text, way_text, AreNodes}
use Rattle.dt_view.proofs.ways.way_to.Given as goal

abbrev pub invariant-loop-above : goal.invariant-loop-above
invariant-loop-above g l =
    let t = g.V.TreeView.tree l.view in
    record {
      there : IsNode t l.here;
      nodes : AreNodes t l.way;
      text : names_text (path_at t l.here) ++ way_text t l.way ≡ names_text (path_at t l.node);
      long : length (path_at t l.here) + length l.way ≡ length (path_at t l.node);
    }

abbrev pub decreases-loop-above : goal.decreases-loop-above
decreases-loop-above g l = length (path_at (g.V.TreeView.tree l.view) l.here)
