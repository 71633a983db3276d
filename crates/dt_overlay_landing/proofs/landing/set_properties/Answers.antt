use Rattle.std.proofs.Common.{◌≡◌, ◌+◌, ◌∙◌, List, drop, refl, sym, ap, subst, arith}
use Rattle.std.proofs.lemmas.Result.{err_from_is_err_and}
use Rattle.dt_model.specs.Tree.{Property}
use Rattle.dt_overlay_laws.specs.Steps.{land_properties, FullAtProperties}
use Rattle.dt_overlay_base.specs.Targets.{HasNoRoom}
use Rattle.dt_overlay_base.proofs.Rooms.{behind}
use Rattle.dt_overlay_landing.specs.Landed.{landed_as, landed_properties}
use Rattle.dt_overlay_landing.proofs.LandingNodes.{PropertiesLeft, properties_first, properties_step, properties_stuck, properties_over, properties_named, want_whole}
use Rattle.dt_trees.specs.Placed.{path_at, properties_at}
use Rattle.dt_trees.specs.Views.{props_said}
use Rattle.dt_trees.proofs.Props.{next_prop, no_prop}
use Rattle.dt_overlay_landing.proofs.landing.set_properties.Goals as goal

pub loop-prop-init : goal.loop-prop-init
loop-prop-init g c =
    let o = g.V.TreeView.tree c.args.object.now in
    let l = c.args.landing.now in
    let full = HasNoRoom g.T.Target.reading g.T.Target.has_room g.T.Target.follows c.args.target.now in
    let start = g.T.Target.reading c.args.target.now in
    let all = landed_properties o l in
    let own : props_said c.deref-prop-items.result.now ≡ properties_at o (path_at o l.node) = ap props_said c.deref-prop-items.ensures.value ∙ c.in_ok-props.ensures in
    record {
      left = subst (λ (ps : List Property). PropertiesLeft full c.args.path.now (landed_as l) ps start (land_properties c.args.path.now all start) (FullAtProperties full c.args.path.now all start)) (sym own)
          (record {
            lands = refl;
            may = c.requires.may;
            stands = c.requires.stands;
            named = properties_named o l.node c.validity.ensures.valid c.requires.node;
            stuck = λ h. h;
          });
      follows = g.T.Target.follows_refl c.args.target.now;
    }

pub land_property-requires-clause-stands : goal.land_property-requires-clause-stands
land_property-requires-clause-stands g c = c.loop-prop.invariant.left.stands

pub land_property-requires-clause-named : goal.land_property-requires-clause-named
land_property-requires-clause-named g c =
    let full = HasNoRoom g.T.Target.reading g.T.Target.has_room g.T.Target.follows c.args.target.now in
    let start = g.T.Target.reading c.args.target.now in
    let all = landed_properties (g.V.TreeView.tree c.args.object.now) c.args.landing.now in
    let q = c.args.path.now in
    let xs = c.deref-prop-items.result.now in
    let i = c.loop-prop.prop-index in
    (properties_first full q (landed_as c.args.landing.now) (drop i (props_said xs)) (drop (i + 1) (props_said xs)) _ (g.T.Target.reading c.loop-prop.target) (g.T.Target.reading c.loop-prop.target)
    (land_properties q all start) (FullAtProperties full q all start) (next_prop xs i _ (omega arith)) c.loop-prop.invariant.left).named.0

pub land_property-requires-clause-may : goal.land_property-requires-clause-may
land_property-requires-clause-may g c =
    let full = HasNoRoom g.T.Target.reading g.T.Target.has_room g.T.Target.follows c.args.target.now in
    let start = g.T.Target.reading c.args.target.now in
    let all = landed_properties (g.V.TreeView.tree c.args.object.now) c.args.landing.now in
    let q = c.args.path.now in
    let xs = c.deref-prop-items.result.now in
    let i = c.loop-prop.prop-index in
    (properties_first full q (landed_as c.args.landing.now) (drop i (props_said xs)) (drop (i + 1) (props_said xs)) _ (g.T.Target.reading c.loop-prop.target) (g.T.Target.reading c.loop-prop.target)
    (land_properties q all start) (FullAtProperties full q all start) (next_prop xs i _ (omega arith)) c.loop-prop.invariant.left).may.0

pub loop-prop-preserved : goal.loop-prop-preserved
loop-prop-preserved g c =
    let full = HasNoRoom g.T.Target.reading g.T.Target.has_room g.T.Target.follows c.args.target.now in
    let start = g.T.Target.reading c.args.target.now in
    let all = landed_properties (g.V.TreeView.tree c.args.object.now) c.args.landing.now in
    let q = c.args.path.now in
    let xs = c.deref-prop-items.result.now in
    let i = c.loop-prop.prop-index in
    record {
      left = properties_step full q (landed_as c.args.landing.now) (drop i (props_said xs)) (drop (i + 1) (props_said xs)) _ (g.T.Target.reading c.loop-prop.target) (g.T.Target.reading c.land_property.new.target)
          (land_properties q all start) (FullAtProperties full q all start) (next_prop xs i _ (omega arith)) c.loop-prop.invariant.left c.in_ok-land_property.ensures.set;
      follows = g.T.Target.follows_trans c.args.target.now c.loop-prop.target c.land_property.new.target c.loop-prop.invariant.follows c.land_property.ensures.follows;
    }

pub returns-in_err-land_property-clause-refused : goal.returns-in_err-land_property-clause-refused
returns-in_err-land_property-clause-refused g c =
    let full = HasNoRoom g.T.Target.reading g.T.Target.has_room g.T.Target.follows c.args.target.now in
    let start = g.T.Target.reading c.args.target.now in
    let all = landed_properties (g.V.TreeView.tree c.args.object.now) c.args.landing.now in
    let q = c.args.path.now in
    let xs = c.deref-prop-items.result.now in
    let i = c.loop-prop.prop-index in
    let crowded = FullAtProperties full q all start in
    let e = err_from_is_err_and c.from_residual-in_err-land_property.result c.from_residual-in_err-land_property.ensures.1 in
    rw (e.1, e.2)
    (want_whole _ crowded c.in_err-land_property.field-0.0
    (λ stuck. properties_stuck full q (landed_as c.args.landing.now) (drop i (props_said xs)) (drop (i + 1) (props_said xs)) _ (g.T.Target.reading c.loop-prop.target) (g.T.Target.reading c.loop-prop.target)
    (land_properties q all start) crowded (next_prop xs i _ (omega arith)) c.loop-prop.invariant.left
    (behind g.T.Target.reading g.T.Target.has_room g.T.Target.follows g.T.Target.follows_trans c.args.target.now c.loop-prop.target c.loop-prop.invariant.follows _ _ stuck))
    c.in_err-land_property.ensures.refused)

pub returns-in_err-land_property-clause-follows : goal.returns-in_err-land_property-clause-follows
returns-in_err-land_property-clause-follows g c = g.T.Target.follows_trans c.args.target.now c.loop-prop.target c.land_property.new.target c.loop-prop.invariant.follows c.land_property.ensures.follows

pub returns-clause-landed : goal.returns-clause-landed
returns-clause-landed g c =
    let full = HasNoRoom g.T.Target.reading g.T.Target.has_room g.T.Target.follows c.args.target.now in
    let start = g.T.Target.reading c.args.target.now in
    let all = landed_properties (g.V.TreeView.tree c.args.object.now) c.args.landing.now in
    let q = c.args.path.now in
    let xs = c.deref-prop-items.result.now in
    let i = c.loop-prop.prop-index in
    properties_over full q (landed_as c.args.landing.now) (drop i (props_said xs)) (g.T.Target.reading c.loop-prop.target) (land_properties q all start) (FullAtProperties full q all start)
    (no_prop xs i (omega arith)) c.loop-prop.invariant.left
