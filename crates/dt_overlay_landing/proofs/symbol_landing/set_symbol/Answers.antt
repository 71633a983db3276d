use Rattle.std.proofs.Common.{◌≡◌, ◌∷◌, [], codes, Some, refl, sym, ap, subst, ◌∙◌}
use Rattle.std.proofs.lemmas.Result.{IfErr-weaker}
use Rattle.dt_model.specs.Changes.{with_property_at}
use Rattle.dt_model.specs.Object.{fragment_names}
use Rattle.dt_model.specs.Path.{path_value}
use Rattle.dt_overlay_landing.proofs.SymbolLandingLabels.{whole_front}
use Rattle.dt_overlay_base.specs.Targets.{HasNoRoom, MaySetAt}
use Rattle.dt_overlay_landing.proofs.LandingNodes.{set_want}
use Rattle.dt_trees.specs.Placed.{reading_of}
use Rattle.dt_overlay_landing.proofs.symbol_landing.set_symbol.Goals as goal

pub returns-clause-refused : goal.returns-clause-refused
returns-clause-refused g c path w =
    let t = g.T.Target.reading c.args.target.now in
    let room = g.T.Target.has_room c.args.target.now in
    let symbols = codes "__symbols__" ∷ [] in
    let at : c.path-2.result.now ≡ symbols = c.path-2.ensures in
    let label = c.args.symbol.now.label.now in
    let is = c.in_ok-path.ensures.value w.found w.all.contents (whole_front w.found (fragment_names (reading_of (g.V.TreeView.tree c.args.object.now.tree.now)).children) w.all.named) w.all.sited in
    let both : Some c.in-Some.path ≡ Some path = sym c.in-Some.is ∙ is ∙ w.lands in
    let same : c.in-Some.path ≡ path = cc in
    let name : c.known.result ≡ label = c.known.ensures in
    let value : c.deref.result.now ≡ path_value path = c.deref.ensures.value ∙ c.in_ok-put_path.ensures ∙ ap path_value same in
    let next : with_property_at c.path-2.result.now c.known.result c.deref.result.now t ≡ with_property_at symbols label (path_value path) t = λ i. with_property_at (at i) (name i) (value i) t in
    let may : MaySetAt t c.path-2.result.now c.known.result c.deref.result.now = record { valid = λ named. absurd (w.plain (sym name ∙ named)); own = λ named. absurd (w.plain (sym name ∙ named)) } in
    IfErr-weaker c.set_prop.result _ _
    (λ fault why. (
      why.1,
      set_want room (HasNoRoom g.T.Target.reading g.T.Target.has_room g.T.Target.follows c.args.target.now t (with_property_at symbols label (path_value path) t)) t c.path-2.result.now c.known.result c.deref.result.now fault.kind may
          (λ none. (c.args.target.now, g.T.Target.follows_refl c.args.target.now, refl, λ some. none (subst room (sym next) some))) why.0,
    )) c.set_prop.ensures.refused
