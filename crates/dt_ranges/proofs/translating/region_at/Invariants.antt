use Rattle.dt_trees.specs.Placed.{path_at, reading_of}
use Rattle.std.proofs.Common.{◌≡◌, length, []}
use Rattle.dt_resolve_model.specs.World.{tree_world}
use Rattle.dt_resolve_model.specs.Regions.{finished, translated, region_at}
use Rattle.dt_ranges.specs.Buses.{IsBus}
use Rattle.dt_ranges.proofs.translating.region_at.Given as goal

-- going on from here gives the region of the bus at which it began
abbrev pub invariant-loop-above : goal.invariant-loop-above
invariant-loop-above g l = record {
  there : IsBus (g.V.TreeView.tree l.view) l.here.bus;
  on : finished (tree_world (reading_of (g.V.TreeView.tree l.view))) l.size (translated (tree_world (reading_of (g.V.TreeView.tree l.view))) l.name [] (path_at (g.V.TreeView.tree l.view) l.here.bus.node) l.size l.here.at) ≡ region_at (tree_world (reading_of (g.V.TreeView.tree l.view))) l.name (path_at (g.V.TreeView.tree l.view) l.fn.bus.node) l.address l.size;
}

abbrev pub decreases-loop-above : goal.decreases-loop-above
decreases-loop-above g l = length (path_at (g.V.TreeView.tree l.view) l.here.bus.node)
