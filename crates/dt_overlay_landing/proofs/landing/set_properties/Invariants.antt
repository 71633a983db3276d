-- The properties that are left do to the tree so far what all of them do to the first one.
use Rattle.std.proofs.Common.{drop}
use Rattle.dt_overlay_laws.specs.Steps.{land_properties, FullAtProperties}
use Rattle.dt_overlay_base.specs.Targets.{HasNoRoom}
use Rattle.dt_overlay_landing.specs.Landed.{landed_as, landed_properties}
use Rattle.dt_overlay_landing.proofs.LandingNodes.{PropertiesLeft}
use Rattle.dt_trees.specs.Views.{props_said}
use Rattle.dt_overlay_landing.proofs.landing.set_properties.Given as goal

abbrev pub invariant-loop-prop : goal.invariant-loop-prop
invariant-loop-prop g l =
    let full = HasNoRoom g.T.Target.reading g.T.Target.has_room g.T.Target.follows l.fn.target in
    let start = g.T.Target.reading l.fn.target in
    let all = landed_properties (g.V.TreeView.tree l.object) l.landing in
    record {
      left : PropertiesLeft full l.path (landed_as l.landing) (drop l.prop-index (props_said l.prop-items)) (g.T.Target.reading l.target) (land_properties l.path all start) (FullAtProperties full l.path all start);
      follows : g.T.Target.follows l.fn.target l.target;
    }
