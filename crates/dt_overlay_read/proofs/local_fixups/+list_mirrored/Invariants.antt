use Rattle.std.proofs.Common.{◌-◌, ℕ, List, suc, length}
use Rattle.dt_model.specs.Limits.{most_names}
use Rattle.dt_model.specs.Path.{Path}
use Rattle.dt_model.specs.Tree.{Forest}
use Rattle.dt_overlay_read.specs.LocalFixups.{Left, ListsMirrors}
use Rattle.dt_overlay_object.specs.Plans.{AreBroughtBy}
use Rattle.dt_trees.specs.Placed.{path_at, below_at}
use Rattle.dt_trees.proofs.Walked.{IsWalked, count_left}
use Rattle.dt_overlay_read.proofs.local_fixups.+list_mirrored.Given as goal

abbrev pub decreases-list_mirrored : goal.decreases-list_mirrored
decreases-list_mirrored g l = suc most_names - length (path_at (g.V.TreeView.tree l.object.now) l.mirror)

abbrev pub invariant-loop-next : goal.invariant-loop-next
invariant-loop-next g l =
    let t = g.V.TreeView.tree l.object in
    record {
      forest : Forest;
      walked : IsWalked t (path_at t l.mirror) l.next forest;
      left : (numbers : List (Path × ℕ)) → AreBroughtBy t numbers l.brought
          → Left (ListsMirrors t numbers (path_at t l.node)) (below_at t (path_at t l.mirror)) forest l.initial.out.items l.out.items;
    }

abbrev pub decreases-loop-next : goal.decreases-loop-next
decreases-loop-next g l = let t = g.V.TreeView.tree l.object in count_left t (path_at t l.mirror) l.next
