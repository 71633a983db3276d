use Rattle.std.proofs.Common.{◌++◌, ◌∷◌, [], ◌∙◌, List, refl, sym, ap, subst, inl, inr}
use Rattle.std.proofs.lemmas.List.{drop_more, drop_all}
use Rattle.std.proofs.lemmas.Result.{err_from_is_err_and}
use Rattle.dt_model.specs.Object.{fragment_names}
use Rattle.dt_overlay_object.specs.Plans.{AreFragmentsOf}
use Rattle.dt_overlay_object.specs.declared.kept.ObjectFragment.{ObjectFragment}
use Rattle.dt_overlay_object.specs.declared.kept.ObjectTarget.TheVariants.{Number}
use Rattle.dt_overlay_landing.proofs.SitesFound.{found_begun, turn_of, this, found_on, found_refused, found_ended}
use Rattle.dt_trees.specs.Placed.{reading_of}
use Rattle.dt_overlay_landing.proofs.sites.find_each_site.Goals as goal

pub loop-fragment-init : goal.loop-fragment-init
loop-fragment-init g c fixups marked =
    let base = g.T.Target.reading c.args.target.now in
    let o = g.V.TreeView.tree c.args.object.now.tree.now in
    let listed = subst (λ (xs : List ObjectFragment). AreFragmentsOf o xs (fragment_names (reading_of o).children)) (sym c.deref-fragment-items.ensures.value) c.requires.fragments in
    found_begun base fixups o c.args.object.now.brought c.deref-fragment-items.result.now c.args.marks.now.entries c.args.landing.now c.requires.brought marked listed c.requires.empty

pub find_site-requires : goal.find_site-requires
find_site-requires g c =
    let base = g.T.Target.reading c.args.target.now in
    let o = g.V.TreeView.tree c.args.object.now.tree.now in
    let fixups = c.requires.marked.0 in
    let xs = c.deref-fragment-items.result.now in
    let i = c.loop-fragment.fragment-index in
    let so_far = c.loop-fragment.invariant fixups c.requires.marked.1 in
    let first = drop_more xs i (record { node = 0; content = 0; target = Number }) c.loop-fragment-test.true in (
      this base fixups o c.args.object.now.brought xs c.args.marks.now.entries i c.loop-fragment.landing so_far _ first,
      turn_of base fixups o c.args.object.now.brought xs c.args.marks.now.entries i c.loop-fragment.landing so_far _ first g.V.TreeView.tree c.args.object.now refl refl,
    )

pub returns-in_err-path-clause-refused : goal.returns-in_err-path-clause-refused
returns-in_err-path-clause-refused g c fixups marked =
    let base = g.T.Target.reading c.args.target.now in
    let o = g.V.TreeView.tree c.args.object.now.tree.now in
    let xs = c.deref-fragment-items.result.now in
    let i = c.loop-fragment.fragment-index in
    let so_far = c.loop-fragment.invariant fixups marked in
    let first = drop_more xs i (record { node = 0; content = 0; target = Number }) c.loop-fragment-test.true in
    let e = err_from_is_err_and c.from_residual.result c.from_residual.ensures.1 in
    let why = c.in_err-path.ensures.refused (this base fixups o c.args.object.now.brought xs c.args.marks.now.entries i c.loop-fragment.landing so_far _ first)
    (turn_of base fixups o c.args.object.now.brought xs c.args.marks.now.entries i c.loop-fragment.landing so_far _ first g.V.TreeView.tree c.args.object.now refl refl) in
    rw (e.1, e.2) (
      why.0,
      elim why.1 [
        | inl memory ↦ inl memory
        | inr none ↦ inr (found_refused base fixups o c.args.object.now.brought xs c.args.marks.now.entries i c.loop-fragment.landing so_far _ first c.in_err-path.field-0.0.kind none)
      ],
    )

pub loop-fragment-preserved : goal.loop-fragment-preserved
loop-fragment-preserved g c fixups marked =
    let base = g.T.Target.reading c.args.target.now in
    let o = g.V.TreeView.tree c.args.object.now.tree.now in
    let xs = c.deref-fragment-items.result.now in
    let i = c.loop-fragment.fragment-index in
    let so_far = c.loop-fragment.invariant fixups marked in
    let first = drop_more xs i (record { node = 0; content = 0; target = Number }) c.loop-fragment-test.true in
    found_on base fixups o c.args.object.now.brought xs c.args.marks.now.entries i c.loop-fragment.landing so_far _ first c.validity-2.ensures.places c.in_ok-path.path c.in_ok-path.ensures.named (record c.find_site.new.landing { sites = c.push.new.self })
    (c.in_ok-path.ensures.found (this base fixups o c.args.object.now.brought xs c.args.marks.now.entries i c.loop-fragment.landing so_far _ first)
    (turn_of base fixups o c.args.object.now.brought xs c.args.marks.now.entries i c.loop-fragment.landing so_far _ first g.V.TreeView.tree c.args.object.now refl refl))
    (c.in_ok-path.ensures.numbered (this base fixups o c.args.object.now.brought xs c.args.marks.now.entries i c.loop-fragment.landing so_far _ first)
    (turn_of base fixups o c.args.object.now.brought xs c.args.marks.now.entries i c.loop-fragment.landing so_far _ first g.V.TreeView.tree c.args.object.now refl refl))
    (c.in_ok-push.ensures.items ∙ ap (λ sites. sites.items ++ c.in_ok-path.path ∷ []) c.in_ok-path.ensures.kept)

pub returns-clause-found : goal.returns-clause-found
returns-clause-found g c fixups marked =
    let xs = c.deref-fragment-items.result.now in
    let i = c.loop-fragment.fragment-index in
    found_ended (g.T.Target.reading c.args.target.now) fixups (g.V.TreeView.tree c.args.object.now.tree.now) c.args.object.now.brought xs c.args.marks.now.entries i c.loop-fragment.landing (c.loop-fragment.invariant fixups marked)
    c.validity-2.ensures.valid c.validity.ensures.within c.validity-2.ensures.within (drop_all i xs c.loop-fragment-test.false)
