use Rattle.std.proofs.Common.{◌<◌, sym, ap, subst, List, length, arith, refl, true≢false}
use Rattle.std.specs.Prelude.{codes}
use Rattle.dt_flat.specs.Arena.{Arena, Slot}
use Rattle.dt_flat.specs.Refusals.{MaySet}
use Rattle.dt_flat.specs.Sound.{IsSoundArena}
use Rattle.dt_flat.proofs.Numbering.{may_give}
use Rattle.dt_flat.proofs.Soundness.{IsSound-same, IsSound-phandle}
use Rattle.dt_flat.proofs.tree.FlatTree.set_phandle.Goals as goal

pub invariant_of-self : goal.invariant_of-self
invariant_of-self c =
    let a : Arena = record { boot_cpu = c.self.inside.boot_cpu; reservations = c.self.inside.reservations.items; slots = c.self.inside.places } in
    subst (λ (ns : List Slot). IsSoundArena (record a { slots = ns }) c.put_number.new.phandles) (sym c.in_err-put_number.ensures.places)
    (IsSound-same a c.self.inside.phandles c.put_number.new.phandles c.in_err-put_number.ensures.phandles c.self.invariant)

pub invariant_of-self-2 : goal.invariant_of-self-2
invariant_of-self-2 c =
    let slots = c.self.inside.places in
    let a : Arena = record { boot_cpu = c.self.inside.boot_cpu; reservations = c.self.inside.reservations.items; slots = slots } in
    let lt : c.args.node < length slots = omega (arith, ap (λ (t : Arena). length t.slots) c.self.view_is, c.requires) in
    subst (λ (ns : List Slot). IsSoundArena (record a { slots = ns }) c.put_number.new.phandles) (sym c.in_ok-put_number.ensures.ok)
    (IsSound-phandle a c.self.inside.phandles c.put_number.new.phandles c.args.node c.in-Some.number c.args.value.now lt (c.in-Some.ensures.may.0 refl) c.in-Some.ensures.number c.in-Some.ensures.cell c.in_ok-put_number.ensures.given c.self.invariant)

pub returns-in_default-clause-refused : goal.returns-in_default-clause-refused
returns-in_default-clause-refused c =
    let p = c.args.node in
    let value = c.args.value.now in (
      rw c.of.ensures.kind (λ (may : MaySet c.args.self.now.slots p (codes "phandle") value).
          let here = subst (λ (t : Arena). MaySet t.slots p (codes "phandle") value) (sym c.self.view_is) may in
          true≢false (sym (c.in_default.ensures.may.1 (may_give c.self.inside.places c.self.inside.phandles p value c.self.invariant.numbered here)))),
      c.of.ensures.at,
    )
