-- The children that are left do to the tree so far what all of them do to the first one.
use Rattle.std.proofs.Common.{◌-◌, suc, length}
use Rattle.dt_model.specs.Limits.{most_names}
use Rattle.dt_model.specs.Tree.{Forest}
use Rattle.dt_overlay_laws.specs.Steps.{land_node, FullAtNode}
use Rattle.dt_overlay_base.specs.Targets.{HasNoRoom}
use Rattle.dt_overlay_landing.specs.Landed.{forest_landed, landed_with}
use Rattle.dt_overlay_landing.proofs.LandingNodes.{NodesLeft}
use Rattle.dt_trees.specs.Placed.{path_at}
use Rattle.dt_trees.proofs.Walked.{IsWalked, count_left}
use Rattle.dt_overlay_landing.proofs.landing.+land.Given as goal

abbrev pub decreases-land : goal.decreases-land
decreases-land g l = suc most_names - length (path_at (g.V.TreeView.tree l.object.now.tree.now) l.node)

abbrev pub invariant-loop-next : goal.invariant-loop-next
invariant-loop-next g l =
    let o = g.V.TreeView.tree l.object.tree.now in
    let p = path_at o l.node in
    let full = HasNoRoom g.T.Target.reading g.T.Target.has_room g.T.Target.follows l.fn.target in
    let start = g.T.Target.reading l.fn.target in
    let all = landed_with g.V.TreeView.tree l.object l.values l.node in
    record {
      forest : Forest;
      walked : IsWalked o p l.next forest;
      left : NodesLeft full (forest_landed o l.object.brought.numbers.entries l.values p) l.path forest (g.T.Target.reading l.target) (land_node l.path all start) (FullAtNode full l.path all start);
      follows : g.T.Target.follows l.fn.target l.target;
    }

abbrev pub decreases-loop-next : goal.decreases-loop-next
decreases-loop-next g l = let o = g.V.TreeView.tree l.object.tree.now in count_left o (path_at o l.node) l.next
