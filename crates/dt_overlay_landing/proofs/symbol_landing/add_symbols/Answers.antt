use Rattle.std.proofs.Common.{◌≡◌, ◌∷◌, [], false, codes, sym, ap, subst, ◌∙◌, refl, arith}
use Rattle.std.proofs.lemmas.Result.{IfErr-weaker}
use Rattle.dt_model.specs.Names.{Name}
use Rattle.dt_model.specs.Path.{Path}
use Rattle.dt_model.specs.Tree.{stands_in}
use Rattle.dt_overlay_laws.proofs.SingleChanges.{child_there}
use Rattle.dt_model.specs.Changes.{with_child_at}
use Rattle.dt_overlay_base.specs.Targets.{HasNoRoom, WhyNotAddedAt}
use Rattle.dt_overlay_landing.proofs.LandingNodes.{add_want}
use Rattle.dt_overlay_landing.proofs.symbol_landing.add_symbols.Goals as goal

pub returns-then-find-clause-added : goal.returns-then-find-clause-added
returns-then-find-clause-added g c =
    let t = g.T.Target.reading c.args.target.now in
    sym (child_there [] (codes "__symbols__") t (ap (stands_in t) (sym c.requires.symbols) ∙ sym c.find.ensures ∙ c.if-find.true))

pub returns-clause-refused : goal.returns-clause-refused
returns-clause-refused g c =
    let t = g.T.Target.reading c.args.target.now in
    let fresh : stands_in t (codes "__symbols__" ∷ []) ≡ false = ap (stands_in t) (sym c.requires.symbols) ∙ sym c.find.ensures ∙ c.if-find.false in
    let name : c.in_ok-new.field-0 ≡ codes "__symbols__" = c.in_ok-new.ensures.value ∙ c.as_slice.ensures in
    IfErr-weaker c.add_node.result _ _
    (λ fault why. (
      why.1,
      add_want (g.T.Target.has_room c.args.target.now) ((HasNoRoom g.T.Target.reading g.T.Target.has_room g.T.Target.follows c.args.target.now) t (with_child_at [] (codes "__symbols__") t)) t [] (codes "__symbols__") fault.kind fresh (omega arith)
          (λ none. (c.args.target.now, g.T.Target.follows_refl c.args.target.now, refl, none))
          (subst (λ (p : Path). WhyNotAddedAt (g.T.Target.has_room c.args.target.now) fault.kind t p (codes "__symbols__")) c.root-root.ensures
          (subst (λ (n : Name). WhyNotAddedAt (g.T.Target.has_room c.args.target.now) fault.kind t c.root-root.result n) name why.0)),
    )) c.add_node.ensures.refused
