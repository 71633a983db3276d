-- The fragments among the children so far are kept.
use Rattle.std.proofs.Common.{[]}
use Rattle.dt_model.specs.Tree.{Forest}
use Rattle.dt_trees.proofs.Walked.{IsWalked, count_left}
use Rattle.dt_overlay_read.proofs.FragmentsListed.{Listing}
use Rattle.dt_overlay_read.proofs.fragments.list_fragments.Given as goal

abbrev pub invariant-loop-next : goal.invariant-loop-next
invariant-loop-next g l =
    let t = g.V.TreeView.tree l.object in
    record {
      forest : Forest;
      walked : IsWalked t [] l.next forest;
      listing : Listing t l.out.items forest;
    }

abbrev pub decreases-loop-next : goal.decreases-loop-next
decreases-loop-next g l = let t = g.V.TreeView.tree l.object in count_left t [] l.next
