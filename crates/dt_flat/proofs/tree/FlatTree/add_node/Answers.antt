use Rattle.std.proofs.Common.{◌<◌, sym, ap, subst, List, length, arith}
use Rattle.dt_model.specs.Names.{IsNodeName}
use Rattle.dt_flat.specs.Arena.{Arena, Slot, depth_of}
use Rattle.dt_flat.specs.Refusals.{IsChildAdded}
use Rattle.dt_flat.specs.Sound.{IsSoundArena}
use Rattle.dt_flat.proofs.Soundness.{IsSound-child}
use Rattle.dt_flat.proofs.tree.FlatTree.add_node.Goals as goal

pub invariant_of-self-2 : goal.invariant_of-self-2
invariant_of-self-2 c =
    let slots = c.self.inside.places in
    let a : Arena = record { boot_cpu = c.self.inside.boot_cpu; reservations = c.self.inside.reservations.items; slots = slots } in
    let p = c.args.parent in
    let name = c.as_bytes-name.result.now in
    let lt : p < length slots = omega (arith, ap (λ (t : Arena). length t.slots) c.self.view_is, c.requires) in
    let few : length slots < 65536 = omega (arith, c.len-node.ensures, c.if-node-ge-MOST_NODES.false) in
    let shallow : depth_of slots p < 64 = omega (arith, c.depth.ensures, c.if-depth-ge-MOST_NAMES.false) in
    let named : IsNodeName name = subst IsNodeName (sym c.as_bytes-name.ensures.value) c.as_bytes-name.ensures.valid in
    let added = subst (IsChildAdded p name slots c.add.new.self) c.if-not-branch.false c.in_ok-add.ensures.added in
    subst (λ (ns : List Slot). IsSoundArena (record a { slots = ns }) c.self.inside.phandles) (sym added.1) (IsSound-child a c.self.inside.phandles p name lt few shallow named added.0 c.self.invariant)
