use Rattle.std.proofs.Common.{◌+◌, ◌*◌, ◌-◌, suc, length}
use Rattle.dt_model.specs.Limits.{most_names}
use Rattle.dt_model.specs.Tree.{Forest, preorder}
use Rattle.dt_trees.specs.Placed.{path_at, below_in}
use Rattle.dt_trees.proofs.Walked.{IsWalked, count_left}
use Rattle.dt_overlay_base.proofs.LooksLanded.{AreLeft}
use Rattle.dt_overlay_base.proofs.NodesNumbered.{LeftNumbers}
use Rattle.dt_overlay_base.proofs.looks.+notes.Given as goal

abbrev pub decreases-note_child : goal.decreases-note_child
decreases-note_child g l = 2 * (suc most_names - length (path_at (g.V.TreeView.tree l.object.now) l.node)) + 1

abbrev pub decreases-note_children : goal.decreases-note_children
decreases-note_children g l = 2 * (suc most_names - length (path_at (g.V.TreeView.tree l.object.now) l.node))

abbrev pub invariant-note_children-loop-next : goal.invariant-note_children-loop-next
invariant-note_children-loop-next g l =
    let t = g.V.TreeView.tree l.object in
    record {
      forest : Forest;
      walked : IsWalked t (path_at t l.node) l.next forest;
      left : AreLeft (g.T.Target.reading l.target) (preorder l.path (below_in t l.node)) (preorder l.path forest) l.initial.places l.places;
      numbered : LeftNumbers (g.T.Target.reading l.target) t l.node l.path (preorder l.path (below_in t l.node)) forest l.initial.places l.places;
    }

abbrev pub decreases-note_children-loop-next : goal.decreases-note_children-loop-next
decreases-note_children-loop-next g l = let t = g.V.TreeView.tree l.object in count_left t (path_at t l.node) l.next
