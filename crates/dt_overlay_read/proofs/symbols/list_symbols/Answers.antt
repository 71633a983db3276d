use Rattle.std.proofs.Common.{◌∷◌, [], ◌+◌, ◌∙◌, drop, Some, None, inl, inr, refl, sym, ap, subst, codes, arith}
use Rattle.std.proofs.lemmas.Result.{err_from_is_err_and}
use Rattle.dt_model.specs.Lists.{IsIn}
use Rattle.dt_overlay_read.proofs.RootChildren.{root_child, listed_at}
use Rattle.dt_overlay_texts.proofs.NoNodes.{unplaced_properties}
use Rattle.dt_overlay_read.proofs.SymbolsListed.{ListsNamed-none, named_begin, named_step, named_over, named_among, symbols_listed}
use Rattle.dt_trees.specs.Views.{props_said}
use Rattle.dt_trees.proofs.Props.{next_prop, no_prop}
use Rattle.dt_overlay_read.proofs.symbols.list_symbols.Goals as goal

pub returns-in_default-clause-listed : goal.returns-in_default-clause-listed
returns-in_default-clause-listed g c =
    let t = g.V.TreeView.tree c.args.object.now in
    let nowhere = root_child t c.validity.ensures.places c.root.result c.as_slice.result.now (codes "__symbols__") None c.root.ensures.at c.as_slice.ensures c.in_default.ensures.is in
    symbols_listed t [] c.args.out.now.items c.args.out.now.items (unplaced_properties t (codes "__symbols__" ∷ []) nowhere) (ListsNamed-none t c.args.out.now.items)

pub loop-symbol-init : goal.loop-symbol-init
loop-symbol-init g c =
    let xs = c.deref-symbol-items.result.now in
    named_begin (g.V.TreeView.tree c.args.object.now) (props_said xs) (drop 0 (props_said xs)) c.args.out.now.items refl

pub loop-symbol-preserved : goal.loop-symbol-preserved
loop-symbol-preserved g c =
    let xs = c.deref-symbol-items.result.now in
    let i = c.loop-symbol.symbol-index in
    named_step (g.V.TreeView.tree c.args.object.now) (props_said xs) (drop i (props_said xs)) (drop (i + 1) (props_said xs)) _
    c.args.out.now.items c.loop-symbol.out.items c.list_symbol.new.out.items (next_prop xs i _ (omega arith)) c.loop-symbol.invariant c.in_ok-list_symbol.ensures.listed

pub returns-in_err-list_symbol-clause-refused : goal.returns-in_err-list_symbol-clause-refused
returns-in_err-list_symbol-clause-refused g c =
    let t = g.V.TreeView.tree c.args.object.now in
    let xs = c.deref-symbol-items.result.now in
    let i = c.loop-symbol.symbol-index in
    let e = err_from_is_err_and c.from_residual-in_err-list_symbol.result c.from_residual-in_err-list_symbol.ensures.1 in
    let why = c.in_err-list_symbol.ensures.refused in
    let all = (listed_at t c.validity.ensures.places (codes "__symbols__" ∷ []) c.in-Some.node
    (root_child t c.validity.ensures.places c.root.result c.as_slice.result.now (codes "__symbols__") (Some c.in-Some.node) c.root.ensures.at c.as_slice.ensures c.in-Some.ensures.is)
    ∙ sym (ap props_said c.deref-symbol-items.ensures.value ∙ c.in_ok-symbols.ensures)) in
    rw (e.1, e.2) (
      why.0,
      elim why.1 [
        | inl memory ↦ inl memory
        | inr bad ↦ inr (
          bad.0,
          (
            _,
            subst (IsIn _) (sym all) (named_among t (props_said xs) (drop i (props_said xs)) (drop (i + 1) (props_said xs)) _ c.args.out.now.items c.loop-symbol.out.items
                (next_prop xs i _ (omega arith)) c.loop-symbol.invariant),
            bad.1,
          ),
        )
      ],
    )

pub returns-clause-listed : goal.returns-clause-listed
returns-clause-listed g c =
    let t = g.V.TreeView.tree c.args.object.now in
    let xs = c.deref-symbol-items.result.now in
    let i = c.loop-symbol.symbol-index in
    named_over t (props_said xs) (drop i (props_said xs)) c.args.out.now.items c.loop-symbol.out.items
    (listed_at t c.validity.ensures.places (codes "__symbols__" ∷ []) c.in-Some.node
    (root_child t c.validity.ensures.places c.root.result c.as_slice.result.now (codes "__symbols__") (Some c.in-Some.node) c.root.ensures.at c.as_slice.ensures c.in-Some.ensures.is)
    ∙ sym (ap props_said c.deref-symbol-items.ensures.value ∙ c.in_ok-symbols.ensures))
    (no_prop xs i (omega arith)) c.loop-symbol.invariant
