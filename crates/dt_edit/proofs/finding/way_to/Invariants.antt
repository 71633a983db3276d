-- The names up to here and those on the way are the whole path's.
use Rattle.std.specs.Prelude.{◌≡◌, ◌+◌, ◌++◌, length}
use Rattle.dt_trees.specs.Placed.{path_at, IsNode}
use Rattle.dt_trees.specs.Views.{AreAbove}
use Rattle.dt_view.specs.Ways.{AreNodes}
use Rattle.dt_edit.proofs.DownPaths.{names_down}
use Rattle.dt_edit.proofs.finding.way_to.Given as goal

abbrev pub invariant-loop-next : goal.invariant-loop-next
invariant-loop-next l = record {
  there : IsNode l.blob l.here;
  above : AreAbove l.blob l.here l.above;
  nodes : AreNodes l.blob l.way;
  names : path_at l.blob l.here ++ names_down l.blob l.way ≡ path_at l.blob l.node;
  long : length (path_at l.blob l.here) + length l.way ≡ length (path_at l.blob l.node);
}

abbrev pub decreases-loop-next : goal.decreases-loop-next
decreases-loop-next l = length l.above
