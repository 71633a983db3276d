use Rattle.std.proofs.Common.{◌<◌, ◌∙◌, sym, ap, ℕ, suc, List, length, Option, option_map, arith}
use Rattle.std.specs.Borrow.{Bor}
use Rattle.dt_model.specs.Tree.{value_of}
use Rattle.dt_flat.specs.Arena.{Slot, properties}
use Rattle.dt_flat.specs.Rows.{owned}
use Rattle.dt_flat.proofs.PlaceLemmas.{length-slots, value-kept, value-unknown}
use Rattle.dt_flat.proofs.places.Places.value.Goals as goal

pub returns-in_err-name : goal.returns-in_err-name
returns-in_err-name c =
    let names = c.self.inside.names in
    let hs = c.self.inside.properties in
    let bs = c.self.inside.nodes in
    let there : c.args.node < suc (length bs) = omega (arith, c.requires, length-slots names (owned names hs) bs, ap (λ (slots : List Slot). length slots) c.self.view_is) in
    ap (λ (o : Option (Bor (List ℕ))). option_map (λ v. v.now) o) c.from_residual.ensures
    ∙ sym (value-unknown names bs hs c.args.node c.args.name.now c.self.invariant there c.in_err-name.ensures)
    ∙ ap (λ (slots : List Slot). value_of (properties slots c.args.node) c.args.name.now) c.self.view_is

pub returns : goal.returns
returns c =
    let names = c.self.inside.names in
    let hs = c.self.inside.properties in
    let bs = c.self.inside.nodes in
    let known = c.in_ok-name.ensures in
    let there : c.args.node < suc (length bs) = omega (arith, c.requires, length-slots names (owned names hs) bs, ap (λ (slots : List Slot). length slots) c.self.view_is) in
    c.get.ensures ∙ sym (value-kept names bs hs c.args.node c.in_ok-name.name c.args.name.now c.validity.ensures c.self.invariant there known.0 known.1)
    ∙ ap (λ (slots : List Slot). value_of (properties slots c.args.node) c.args.name.now) c.self.view_is
