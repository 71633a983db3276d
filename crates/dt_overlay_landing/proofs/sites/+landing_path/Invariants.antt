use Rattle.std.proofs.Common.{length}
use Rattle.dt_trees.specs.Placed.{path_at}
use Rattle.dt_overlay_landing.proofs.sites.+landing_path.Given as goal

abbrev pub decreases-landing_path : goal.decreases-landing_path
decreases-landing_path g l = length (path_at (g.V.TreeView.tree l.object.now) l.node)
