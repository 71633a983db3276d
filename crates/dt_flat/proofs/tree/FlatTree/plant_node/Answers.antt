use Rattle.std.proofs.Common.{◌<◌, sym, ap, subst, List, length, arith}
use Rattle.dt_model.specs.Names.{IsNodeName}
use Rattle.dt_flat.specs.Arena.{Arena, Slot}
use Rattle.dt_flat.specs.Refusals.{MayAdd}
use Rattle.dt_flat.specs.Sound.{IsSoundArena}
use Rattle.dt_flat.proofs.Soundness.{IsSound-child}
use Rattle.dt_flat.proofs.tree.FlatTree.plant_node.Goals as goal

-- what is required, of the places and the name's bytes
may : (c : goal.In_ok-plant_child) → MayAdd c.self.inside.places c.args.parent c.as_bytes.result.now
may c =
    subst (λ (a : Arena). MayAdd a.slots c.args.parent c.as_bytes.result.now) (sym c.self.view_is) (subst (MayAdd c.args.self.now.slots c.args.parent) (sym c.as_bytes.ensures.value) c.requires.may)

pub invariant_of-self-2 : goal.invariant_of-self-2
invariant_of-self-2 c =
    let slots = c.self.inside.places in
    let a : Arena = record { boot_cpu = c.self.inside.boot_cpu; reservations = c.self.inside.reservations.items; slots = slots } in
    let p = c.args.parent in
    let name = c.as_bytes.result.now in
    let lt : p < length slots = omega (arith, ap (λ (t : Arena). length t.slots) c.self.view_is, c.requires.there) in
    let named : IsNodeName name = subst IsNodeName (sym c.as_bytes.ensures.value) c.as_bytes.ensures.valid in
    let m = may c in
    subst (λ (ns : List Slot). IsSoundArena (record a { slots = ns }) c.self.inside.phandles) (sym c.in_ok-plant_child.ensures.ok) (IsSound-child a c.self.inside.phandles p name lt m.few m.shallow named m.fresh c.self.invariant)
