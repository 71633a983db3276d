use Rattle.std.proofs.Common.{length}
use Rattle.dt_trees.specs.Placed.{path_at}
use Rattle.dt_overlay_object.proofs.brought.Brought.+brings.Given as goal

abbrev pub decreases-brings : goal.decreases-brings
decreases-brings g l = length (path_at (g.V.TreeView.tree l.object.now) l.node)
