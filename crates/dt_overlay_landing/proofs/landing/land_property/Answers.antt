use Rattle.std.proofs.Common.{rules, ◌≡◌, List, ℕ, refl, subst}
use Rattle.std.proofs.lemmas.Result.{IfErr-weaker}
use Rattle.dt_model.specs.Changes.{with_property_at}
use Rattle.dt_model.specs.Names.{Name}
use Rattle.dt_overlay_base.specs.Targets.{HasNoRoom, MaySetAt, WhyNotSetAt}
use Rattle.dt_overlay_landing.specs.Landed.{landed_as}
use Rattle.dt_overlay_landing.proofs.LandingNodes.{set_want}
use Rattle.dt_trees.specs.Views.{prop_said}
use Rattle.dt_overlay_landing.proofs.landing.land_property.Goals as goal

pub returns-then-eq-clause-refused : goal.returns-then-eq-clause-refused
returns-then-eq-clause-refused g c =
    let x = c.args.target.now in
    let t = g.T.Target.reading x in
    let room = g.T.Target.has_room x in
    let path = c.args.path.now in
    let name = c.args.prop.now.name.now in
    let value = (landed_as c.args.landing.now (prop_said c.args.prop.now)).value in
    let same : c.to_be_bytes.result ≡ value = search rules in
    let named : c.in_ok-property.property ≡ name = c.in_ok-property.ensures.value in
    let may : MaySetAt t path name value = record { valid = λ e. (c.requires.may e).0; own = λ e. (c.requires.may e).1 } in
    IfErr-weaker c.set_prop.result _ _
    (λ fault why. (
      why.1,
      set_want room (HasNoRoom g.T.Target.reading g.T.Target.has_room g.T.Target.follows x t (with_property_at path name value t)) t path name value fault.kind may (λ none. (x, g.T.Target.follows_refl x, refl, none))
          (subst (λ (v : List ℕ). WhyNotSetAt room fault.kind t path name v) same (subst (λ (n : Name). WhyNotSetAt room fault.kind t path n c.to_be_bytes.result) named why.0)),
    )) c.set_prop.ensures.refused

pub returns-clause-refused : goal.returns-clause-refused
returns-clause-refused g c =
    let x = c.args.target.now in
    let t = g.T.Target.reading x in
    let room = g.T.Target.has_room x in
    let path = c.args.path.now in
    let name = c.args.prop.now.name.now in
    let value = (landed_as c.args.landing.now (prop_said c.args.prop.now)).value in
    let same : c.unwrap_or.result.now ≡ value = search rules in
    let named : c.in_ok-property.property ≡ name = c.in_ok-property.ensures.value in
    let may : MaySetAt t path name value = record { valid = λ e. (c.requires.may e).0; own = λ e. (c.requires.may e).1 } in
    IfErr-weaker c.set_prop-2.result _ _
    (λ fault why. (
      why.1,
      set_want room (HasNoRoom g.T.Target.reading g.T.Target.has_room g.T.Target.follows x t (with_property_at path name value t)) t path name value fault.kind may (λ none. (x, g.T.Target.follows_refl x, refl, none))
          (subst (λ (v : List ℕ). WhyNotSetAt room fault.kind t path name v) same (subst (λ (n : Name). WhyNotSetAt room fault.kind t path n c.unwrap_or.result.now) named why.0)),
    )) c.set_prop-2.ensures.refused
