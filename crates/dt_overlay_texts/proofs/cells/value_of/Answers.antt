use Rattle.std.proofs.Common.{◌≡◌, ◌∙◌, None, sym, ap}
use Rattle.std.specs.Option.{option_copied}
use Rattle.dt_model.specs.Tree.{value_in}
use Rattle.dt_model.proofs.Texts.{one_text}
use Rattle.dt_overlay_texts.proofs.CellTexts.{no_colon, no_second, path_first, property_second}
use Rattle.dt_trees.specs.Placed.{place_of, reading_of, IsAt}
use Rattle.dt_trees.proofs.NodePlaces.{path_is}
use Rattle.dt_overlay_texts.proofs.NoNodes.{no_value_at}
use Rattle.dt_overlay_texts.proofs.cells.value_of.Goals as goal

pub returns-in_err-path : goal.returns-in_err-path
returns-in_err-path g c cell is = absurd (no_colon c.args.text.now c.in_err-path.ensures cell is)

pub returns-in_err-property : goal.returns-in_err-property
returns-in_err-property g c cell is =
    absurd (no_second c.args.text.now c.in_ok-path.path.now c.in_ok-path.rest.now c.in_ok-path.ensures c.in_err-property.ensures cell is)

pub returns-in_err-path-2 : goal.returns-in_err-path-2
returns-in_err-path-2 g c cell is =
    let first = path_first c.args.text.now c.in_ok-path.path.now c.in_ok-path.rest.now cell is c.in_ok-path.ensures in
    absurd (c.in_err-path-2.ensures cell.path (record { written = first.0; named = is.path }))

pub returns-in_err-node : goal.returns-in_err-node
returns-in_err-node g c cell is =
    let t = g.V.TreeView.tree c.args.object.now in
    let first = path_first c.args.text.now c.in_ok-path.path.now c.in_ok-path.rest.now cell is c.in_ok-path.ensures in
    let of = c.in_ok-path-2.ensures in
    let same : c.in_ok-path-2.path ≡ cell.path = one_text c.in_ok-path-2.path cell.path of.named is.path (sym of.written ∙ first.0) in
    let nowhere : place_of t cell.path ≡ None = ap (place_of t) (sym same) ∙ sym c.in_err-node.ensures.is in
    ap option_copied c.from_residual-in_err-node.ensures ∙ sym (no_value_at t cell.path cell.property nowhere)

pub returns : goal.returns
returns g c cell is =
    let t = g.V.TreeView.tree c.args.object.now in
    let i = c.in_ok-node.node in
    let first = path_first c.args.text.now c.in_ok-path.path.now c.in_ok-path.rest.now cell is c.in_ok-path.ensures in
    let second = property_second c.args.text.now c.in_ok-path.path.now c.in_ok-path.rest.now c.in_ok-property.property.now c.in_ok-property.field-0-1.now cell is c.in_ok-path.ensures c.in_ok-property.ensures in
    let of = c.in_ok-path-2.ensures in
    let same : c.in_ok-path-2.path ≡ cell.path = one_text c.in_ok-path-2.path cell.path of.named is.path (sym of.written ∙ first.0) in
    let at : IsAt t cell.path i = ap (place_of t) (sym same) ∙ sym c.in_ok-node.ensures.is in
    let path = path_is t c.validity.ensures.places cell.path i at in
    c.value.ensures ∙ λ j. value_in (reading_of t) (path j) (second.0 j)
