-- The fragments before this one have sites.
use Rattle.std.proofs.Common.{List}
use Rattle.dt_model.specs.Names.{Name}
use Rattle.dt_model.specs.Object.{Cell}
use Rattle.dt_overlay_landing.specs.Marks.{AreMarked}
use Rattle.dt_overlay_landing.proofs.SitesFound.{AreFound}
use Rattle.dt_overlay_landing.proofs.sites.find_each_site.Given as goal

abbrev pub invariant-loop-fragment : goal.invariant-loop-fragment
invariant-loop-fragment g l =
    let base = g.T.Target.reading l.target in
    let o = g.V.TreeView.tree l.object.tree.now in
    (fixups : List (Name × Cell)) → AreMarked base fixups o l.marks.entries → AreFound base fixups o l.object.brought l.fragment-items l.marks.entries l.fragment-index l.landing
