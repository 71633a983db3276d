use Rattle.std.proofs.Common.{◌≡◌, ◌∙◌, ◌≤◌, ◌+◌, ℕ, List, length, Some, None, true, false, refl, sym, ap, subst}
use Rattle.dt_model.specs.Object.{HasCell}
use Rattle.dt_model.specs.Path.{Path}
use Rattle.dt_model.specs.Tree.{value_in}
use Rattle.dt_overlay_texts.specs.Cells.{cell_told}
use Rattle.dt_trees.specs.Placed.{reading_of}
use Rattle.dt_trees.proofs.NodePlaces.{path_is}
use Rattle.dt_overlay_texts.proofs.NoNodes.{no_value_at}
use Rattle.dt_overlay_texts.proofs.cells.cell_at.Goals as goal

pub returns-in_err-node : goal.returns-in_err-node
returns-in_err-node g c = rw c.from_residual.ensures (λ cell has.
    let t = g.V.TreeView.tree c.args.object.now in
    let same = c.texts_are_one.ensures.cells c.args.text.now cell (cell_told c.in-Some.cell) has.0 c.in-Some.ensures in
    let there : HasCell (reading_of t) (cell_told c.in-Some.cell) = subst (HasCell (reading_of t)) same has.1 in
    let none = no_value_at t c.in-Some.cell.path c.in-Some.cell.property.now (sym c.in_err-node.ensures.is) in
    let both : None ≡ Some there.0 = sym none ∙ there.1 in
    cc)

pub returns-in_err-value : goal.returns-in_err-value
returns-in_err-value g c = rw c.from_residual-in_err-value.ensures (λ cell has.
    let t = g.V.TreeView.tree c.args.object.now in
    let same = c.texts_are_one.ensures.cells c.args.text.now cell (cell_told c.in-Some.cell) has.0 c.in-Some.ensures in
    let there : HasCell (reading_of t) (cell_told c.in-Some.cell) = subst (HasCell (reading_of t)) same has.1 in
    let led = ap (λ (p : Path). value_in (reading_of t) p c.in-Some.cell.property.now) (path_is t c.validity.ensures.places c.in-Some.cell.path c.in_ok-node.node (sym c.in_ok-node.ensures.is)) in
    let both : None ≡ Some there.0 = c.in_err-value.ensures ∙ led ∙ there.1 in
    cc)

pub returns-then-not-has_cell : goal.returns-then-not-has_cell
returns-then-not-has_cell g c cell has =
    let t = g.V.TreeView.tree c.args.object.now in
    let same = c.texts_are_one.ensures.cells c.args.text.now cell (cell_told c.in-Some.cell) has.0 c.in-Some.ensures in
    let there : HasCell (reading_of t) (cell_told c.in-Some.cell) = subst (HasCell (reading_of t)) same has.1 in
    let led = ap (λ (p : Path). value_in (reading_of t) p c.in-Some.cell.property.now) (path_is t c.validity.ensures.places c.in-Some.cell.path c.in_ok-node.node (sym c.in_ok-node.ensures.is)) in
    let both : Some c.in_ok-value.value.now ≡ Some there.0 = c.in_ok-value.ensures ∙ led ∙ there.1 in
    let value : there.0 ≡ c.in_ok-value.value.now = cc in
    let within : c.in-Some.cell.offset + 4 ≤ length c.in_ok-value.value.now = subst (λ (v : List ℕ). c.in-Some.cell.offset + 4 ≤ length v) value there.2 in
    let never : false ≡ true = c.if-not-has_cell.ensures.1 within in
    cc

pub returns : goal.returns
returns g c =
    let t = g.V.TreeView.tree c.args.object.now in
    let led = ap (λ (p : Path). value_in (reading_of t) p c.in-Some.cell.property.now) (path_is t c.validity.ensures.places c.in-Some.cell.path c.in_ok-node.node (sym c.in_ok-node.ensures.is)) in
    let within : c.in-Some.cell.offset + 4 ≤ length c.in_ok-value.value.now = c.if-not-has_cell.ensures.0 refl in
    ((c.in-Some.ensures, (c.in_ok-value.value.now, sym led ∙ sym c.in_ok-value.ensures, within)), sym c.in_ok-node.ensures.is)
