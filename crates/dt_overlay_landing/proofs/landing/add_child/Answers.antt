use Rattle.std.proofs.Common.{◌≡◌, ◌++◌, ◌∷◌, [], List, ℕ, ◌∙◌, refl, sym, ap, subst, true, false}
use Rattle.std.proofs.lemmas.Result.{err_from_is_err_and}
use Rattle.dt_model.specs.Tree.{stands_in}
use Rattle.dt_model.specs.Changes.{with_child_at}
use Rattle.dt_overlay_laws.proofs.SingleChanges.{child_there}
use Rattle.dt_overlay_base.specs.Targets.{HasNoRoom, WhyNotAddedAt}
use Rattle.dt_overlay_landing.proofs.LandingNodes.{add_want}
use Rattle.dt_overlay_landing.proofs.landing.add_child.Goals.{then-not-find+in_ok-new+in_ok-add_node, else-not-find}
use Rattle.dt_overlay_landing.proofs.landing.add_child.Goals as goal

pub returns-in_err-add_node-clause-refused : goal.returns-in_err-add_node-clause-refused
returns-in_err-add_node-clause-refused g c =
    let t = g.T.Target.reading c.args.target.now in
    let p = c.args.parent.now in
    let name = c.args.name.now in
    let room = g.T.Target.has_room c.args.target.now in
    let e = err_from_is_err_and c.from_residual-in_err-add_node.result c.from_residual-in_err-add_node.ensures.1 in
    let r = c.in_err-add_node.ensures.refused in
    let fresh : stands_in t (p ++ name ∷ []) ≡ false = ap (stands_in t) (sym c.in_ok-path.ensures.value) ∙ sym c.find.ensures ∙ c.if-not-find.true in
    let why : WhyNotAddedAt room c.in_err-add_node.field-0.0.kind t p name = subst (λ (x : List ℕ). WhyNotAddedAt room c.in_err-add_node.field-0.0.kind t p x) c.in_ok-new.ensures.value r.0 in
    rw (e.1, e.2)
    (r.1, add_want room ((HasNoRoom g.T.Target.reading g.T.Target.has_room g.T.Target.follows c.args.target.now) t (with_child_at p name t)) t p name c.in_err-add_node.field-0.0.kind fresh c.requires.shallow (λ none. (c.args.target.now, g.T.Target.follows_refl c.args.target.now, refl, none)) why)

pub returns-clause-added : goal.returns-clause-added
returns-clause-added g c =
    let t = g.T.Target.reading c.args.target.now in
    let p = c.args.parent.now in
    let name = c.args.name.now in
    elim c.if-not-find.branch [
      | then-not-find+in_ok-new+in_ok-add_node w ↦ ap g.T.Target.reading w.target-is ∙ w.in_ok-add_node.ensures.ok ∙ ap (λ (x : List ℕ). with_child_at p x t) w.in_ok-new.ensures.value
      | else-not-find w ↦
          let there : stands_in t (p ++ name ∷ []) ≡ true = ap (stands_in t) (sym c.in_ok-path.ensures.value) ∙ sym c.find.ensures ∙ w.if-not-find.false in
          ap g.T.Target.reading w.target-is ∙ sym (child_there p name t there)
    ]
