use Rattle.std.proofs.Common.{◌∷◌, [], ◌+◌, drop, Some, None, refl, sym, ap, ◌∙◌, codes, arith}
use Rattle.std.proofs.lemmas.Result.{err_from_is_err_and}
use Rattle.dt_overlay_read.proofs.FixupsLabels.{ListsLabels-none, labels_begin, labels_step, labels_over, first_unnumbered, fixups_listed}
use Rattle.dt_overlay_read.proofs.RootChildren.{root_child, listed_at}
use Rattle.dt_overlay_texts.proofs.NoNodes.{unplaced_properties}
use Rattle.dt_trees.specs.Views.{props_said}
use Rattle.dt_trees.proofs.Props.{next_prop, no_prop}
use Rattle.dt_overlay_read.proofs.fixups.list_fixups.Goals as goal

pub returns-in_default-clause-listed : goal.returns-in_default-clause-listed
returns-in_default-clause-listed g c =
    let t = g.V.TreeView.tree c.args.object.now in
    let base = g.T.Target.reading c.args.target.now in
    let nowhere = root_child t c.validity.ensures.places c.root.result c.as_slice.result.now (codes "__fixups__") None c.root.ensures.at c.as_slice.ensures c.in_default.ensures.is in
    fixups_listed base t [] c.args.out.now.items c.args.out.now.items (unplaced_properties t (codes "__fixups__" ∷ []) nowhere) (ListsLabels-none base t c.args.out.now.items)

pub loop-fixup-init : goal.loop-fixup-init
loop-fixup-init g c =
    let xs = c.deref-fixup-items.result.now in
    labels_begin (g.T.Target.reading c.args.target.now) (g.V.TreeView.tree c.args.object.now) (props_said xs) (drop 0 (props_said xs)) c.args.out.now.items refl

pub loop-fixup-preserved : goal.loop-fixup-preserved
loop-fixup-preserved g c =
    let xs = c.deref-fixup-items.result.now in
    let i = c.loop-fixup.fixup-index in
    labels_step (g.T.Target.reading c.args.target.now) (g.V.TreeView.tree c.args.object.now) (props_said xs) (drop i (props_said xs)) (drop (i + 1) (props_said xs)) _
    c.args.out.now.items c.loop-fixup.out.items c.list_fixup.new.out.items (next_prop xs i _ (omega arith)) c.loop-fixup.invariant c.in_ok-list_fixup.ensures.listed

pub returns-in_err-list_fixup-clause-refused : goal.returns-in_err-list_fixup-clause-refused
returns-in_err-list_fixup-clause-refused g c =
    let t = g.V.TreeView.tree c.args.object.now in
    let base = g.T.Target.reading c.args.target.now in
    let xs = c.deref-fixup-items.result.now in
    let i = c.loop-fixup.fixup-index in
    let e = err_from_is_err_and c.from_residual-in_err-list_fixup.result c.from_residual-in_err-list_fixup.ensures.1 in
    let why = c.in_err-list_fixup.ensures.refused in
    rw (e.1, e.2) (
      why.0,
      first_unnumbered base t (props_said xs) (drop i (props_said xs)) (drop (i + 1) (props_said xs)) _ c.args.out.now.items c.loop-fixup.out.items c.in_err-list_fixup.field-0.0.kind
          (listed_at t c.validity.ensures.places (codes "__fixups__" ∷ []) c.in-Some.node
          (root_child t c.validity.ensures.places c.root.result c.as_slice.result.now (codes "__fixups__") (Some c.in-Some.node) c.root.ensures.at c.as_slice.ensures c.in-Some.ensures.is)
          ∙ sym (ap props_said c.deref-fixup-items.ensures.value ∙ c.in_ok-fixups.ensures)) (next_prop xs i _ (omega arith)) c.loop-fixup.invariant why.1,
    )

pub returns-clause-listed : goal.returns-clause-listed
returns-clause-listed g c =
    let t = g.V.TreeView.tree c.args.object.now in
    let xs = c.deref-fixup-items.result.now in
    let i = c.loop-fixup.fixup-index in
    labels_over (g.T.Target.reading c.args.target.now) (g.V.TreeView.tree c.args.object.now) (props_said xs) (drop i (props_said xs)) c.args.out.now.items c.loop-fixup.out.items
    (listed_at t c.validity.ensures.places (codes "__fixups__" ∷ []) c.in-Some.node
    (root_child t c.validity.ensures.places c.root.result c.as_slice.result.now (codes "__fixups__") (Some c.in-Some.node) c.root.ensures.at c.as_slice.ensures c.in-Some.ensures.is)
    ∙ sym (ap props_said c.deref-fixup-items.ensures.value ∙ c.in_ok-fixups.ensures)) (no_prop xs i (omega arith)) c.loop-fixup.invariant
