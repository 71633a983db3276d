use Rattle.std.proofs.Common.{◌<◌, sym, ap, subst, List, length, arith}
use Rattle.dt_model.specs.Names.{IsPropertyName}
use Rattle.dt_flat.specs.Arena.{Arena, Slot}
use Rattle.dt_flat.specs.Sound.{IsSoundArena}
use Rattle.dt_flat.proofs.Numbering.{not_phandle}
use Rattle.dt_flat.proofs.Soundness.{IsSound-property}
use Rattle.dt_flat.proofs.tree.FlatTree.plant_prop.Goals as goal

pub invariant_of-self-then-ne : goal.invariant_of-self-then-ne
invariant_of-self-then-ne c =
    let slots = c.self.inside.places in
    let a : Arena = record { boot_cpu = c.self.inside.boot_cpu; reservations = c.self.inside.reservations.items; slots = slots } in
    let name = c.as_bytes-name.result.now in
    let lt : c.args.node < length slots = omega (arith, ap (λ (t : Arena). length t.slots) c.self.view_is, c.requires.there) in
    let named : IsPropertyName name = subst IsPropertyName (sym c.as_bytes-name.ensures.value) c.as_bytes-name.ensures.valid in
    subst (λ (ns : List Slot). IsSoundArena (record a { slots = ns }) c.self.inside.phandles) (sym c.in_ok-plant_property.ensures.ok)
    (IsSound-property a c.self.inside.phandles c.args.node name c.args.value.now lt named (not_phandle name c.as_slice.result.now c.as_slice.ensures c.if-ne.ensures) c.self.invariant)
