use Rattle.std.proofs.Common.{◌≡◌, ◌<◌, ◌∙◌, sym, ap, ℕ, suc, List, length, Some, None, arith}
use Rattle.dt_model.specs.Applied.{with_cell}
use Rattle.dt_model.specs.Tree.{value_of}
use Rattle.dt_flat.specs.Arena.{Slot, properties, with_property}
use Rattle.dt_flat.specs.Rows.{owned, slots_kept, AreRows}
use Rattle.dt_flat.proofs.PlaceLemmas.{length-slots, held-value, value-unknown, noted-known, put-noted}
use Rattle.dt_flat.proofs.places.Places.patch.Goals as goal

pub unreachable-requires : goal.unreachable-requires
unreachable-requires c =
    let names = c.self.inside.names in
    let hs = c.self.inside.properties in
    let bs = c.self.inside.nodes in
    let there : c.args.node < suc (length bs) = omega (arith, c.requires.node, length-slots names (owned names hs) bs, ap (λ (slots : List Slot). length slots) c.self.view_is) in
    let none : value_of (properties c.args.self.now c.args.node) c.args.name.now ≡ None =
    ap (λ (slots : List Slot). value_of (properties slots c.args.node) c.args.name.now) (sym c.self.view_is) ∙ value-unknown names bs hs c.args.node c.args.name.now c.self.invariant there c.in_default.ensures in
    let some = c.requires.cell.1 in
    cc

pub patch-requires : goal.patch-requires
patch-requires c =
    let value = c.requires.cell.0 in
    let held = held-value c.self.inside.names c.self.inside.nodes c.self.inside.properties c.args.node c.in-Some.name c.args.name.now c.args.self.now value c.self.view_is c.validity.ensures c.self.invariant c.requires.node c.in-Some.ensures.0
    c.in-Some.ensures.1 c.requires.cell.1 in
    (value, held, c.requires.cell.2)

-- the tables with the number in the value
patched : (c : goal.After-patch) (value : List ℕ) → value_of (properties c.args.self.now c.args.node) c.args.name.now ≡ Some value
    → (slots_kept c.self.inside.names (owned c.self.inside.names c.patch.new.self) c.self.inside.nodes ≡ with_property c.args.self.now c.args.node c.args.name.now (with_cell value c.args.offset c.args.number))
    × AreRows c.self.inside.names c.self.inside.nodes c.patch.new.self
patched c value is =
    let names = c.self.inside.names in
    let held = held-value names c.self.inside.nodes c.self.inside.properties c.args.node c.in-Some.name c.args.name.now c.args.self.now value c.self.view_is c.validity.ensures c.self.invariant c.requires.node c.in-Some.ensures.0 c.in-Some.ensures.1 is in
    put-noted names names c.self.inside.nodes c.self.inside.properties c.patch.new.self c.args.node c.in-Some.name (with_cell value c.args.offset c.args.number) c.args.name.now c.args.self.now c.self.view_is
    (noted-known names c.args.name.now c.in-Some.name c.in-Some.ensures.0 c.in-Some.ensures.1) c.validity.ensures c.self.invariant c.requires.node (c.patch.ensures value held)

pub invariant_of-self : goal.invariant_of-self
invariant_of-self c = (patched c c.requires.cell.0 c.requires.cell.1).1

pub returns : goal.returns
returns c value is = (patched c value is).0
