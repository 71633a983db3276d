-- The fragments that are left do to the tree so far what all of them do to the first one.
use Rattle.std.specs.Iterator.Adapters.{zip_first, zip_second}
use Rattle.std.specs.Slice.Iter.{iter_rest}
use Rattle.dt_overlay_base.specs.Targets.{HasNoRoom}
use Rattle.dt_overlay_landing.specs.Landed.{land_each, landed_with, FullAtEach}
use Rattle.dt_overlay_landing.proofs.LandingEach.{EachLeft}
use Rattle.dt_overlay_landing.proofs.landing.land_each.Given as goal

abbrev pub invariant-loop-fragment : goal.invariant-loop-fragment
invariant-loop-fragment g l =
    let full = HasNoRoom g.T.Target.reading g.T.Target.has_room g.T.Target.follows l.fn.target in
    let start = g.T.Target.reading l.fn.target in
    let landed = landed_with g.V.TreeView.tree l.object l.values in
    let xs = l.object.fragments.items in
    record {
      next : (goal.iterator-loop-fragment g).can_next l.fragment-iterator;
      ends : (goal.iterator-loop-fragment g).is_finite l.fragment-iterator;
      left : EachLeft full (g.V.TreeView.tree l.object.tree.now) landed (iter_rest (zip_first l.fragment-iterator)) (iter_rest (zip_second l.fragment-iterator)) (g.T.Target.reading l.target)
          (land_each landed xs l.sites start) (FullAtEach full landed xs l.sites start);
      follows : g.T.Target.follows l.fn.target l.target;
    }
