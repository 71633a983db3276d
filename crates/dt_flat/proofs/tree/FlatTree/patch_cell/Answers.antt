use Rattle.std.proofs.Common.{◌≡◌, ◌<◌, ◌∙◌, sym, ap, subst, ℕ, List, Some, IfErr, length, arith}
use Rattle.std.specs.Prelude.{OnOk, IsOk, codes, None}
use Rattle.dt_model.specs.Applied.{with_cell}
use Rattle.dt_model.specs.Names.{IsPropertyName}
use Rattle.dt_model.specs.Tree.{value_of}
use Rattle.dt_flat.specs.Arena.{Arena, Slot, properties, with_property}
use Rattle.dt_flat.specs.Refusals.{MaySet, WhyNotSet}
use Rattle.dt_flat.specs.Sound.{IsSoundArena}
use Rattle.dt_flat.proofs.Numbering.{named_phandle, not_phandle, whole_phandle}
use Rattle.dt_flat.proofs.Soundness.{IsSound-property}
use Rattle.dt_flat.proofs.tree.FlatTree.patch_cell.Goals as goal

pub invariant_of-self : goal.invariant_of-self
invariant_of-self c =
    let slots = c.self.inside.places in
    let a : Arena = record { boot_cpu = c.self.inside.boot_cpu; reservations = c.self.inside.reservations.items; slots = slots } in
    let name = c.as_bytes-name.result.now in
    let named_as : name ≡ c.args.name.now = c.as_bytes-name.ensures.value in
    let value = c.requires.cell.0 in
    let lt : c.args.node < length slots = omega (arith, ap (λ (t : Arena). length t.slots) c.self.view_is, c.requires.node) in
    let named : IsPropertyName name = subst IsPropertyName (sym named_as) c.as_bytes-name.ensures.valid in
    let there : value_of (properties slots c.args.node) name ≡ Some value =
    ap (λ (t : Arena). value_of (properties t.slots c.args.node) name) c.self.view_is ∙ ap (value_of (properties c.args.self.now.slots c.args.node)) named_as ∙ c.requires.cell.1 in
    subst (λ (ns : List Slot). IsSoundArena (record a { slots = ns }) c.self.inside.phandles) (sym (c.patch.ensures value there))
    (IsSound-property a c.self.inside.phandles c.args.node name (with_cell value c.args.offset c.args.number) lt named (not_phandle name c.as_slice.result.now c.as_slice.ensures c.if-ne.ensures) c.self.invariant)

pub returns-clause-ok : goal.returns-clause-ok
returns-clause-ok c value e =
    let slots = c.args.self.now.slots in
    let named : c.args.name.now ≡ codes "phandle" = sym c.as_bytes-name.ensures.value ∙ named_phandle c.as_bytes-name.result.now c.as_slice.result.now c.as_slice.ensures c.if-ne.ensures in
    let bytes : c.to_be_bytes.result ≡ with_cell value c.args.offset c.args.number =
    c.to_be_bytes.ensures ∙ sym (whole_phandle slots c.self.inside.places c.args.node c.args.name.now value c.requires.cell.0 c.args.offset c.args.number named (ap (λ (t : Arena). t.slots) c.self.view_is) c.self.invariant.valid.phandles e c.requires.cell.1 c.requires.cell.2) in
    subst (λ (n : List ℕ). OnOk c.set_phandle.result (c.set_phandle.new.self ≡ record c.args.self.now { slots = with_property slots c.args.node n (with_cell value c.args.offset c.args.number) })) (sym named)
    (subst (λ (v : List ℕ). OnOk c.set_phandle.result (c.set_phandle.new.self ≡ record c.args.self.now { slots = with_property slots c.args.node (codes "phandle") v })) bytes c.set_phandle.ensures.ok)

pub returns-clause-allowed : goal.returns-clause-allowed
returns-clause-allowed c value e =
    let slots = c.args.self.now.slots in
    let named : c.args.name.now ≡ codes "phandle" = sym c.as_bytes-name.ensures.value ∙ named_phandle c.as_bytes-name.result.now c.as_slice.result.now c.as_slice.ensures c.if-ne.ensures in
    let bytes : c.to_be_bytes.result ≡ with_cell value c.args.offset c.args.number =
    c.to_be_bytes.ensures ∙ sym (whole_phandle slots c.self.inside.places c.args.node c.args.name.now value c.requires.cell.0 c.args.offset c.args.number named (ap (λ (t : Arena). t.slots) c.self.view_is) c.self.invariant.valid.phandles e c.requires.cell.1 c.requires.cell.2) in
    subst (λ (n : List ℕ). IsOk c.set_phandle.result → MaySet slots c.args.node n (with_cell value c.args.offset c.args.number)) (sym named)
    (subst (λ (v : List ℕ). IsOk c.set_phandle.result → MaySet slots c.args.node (codes "phandle") v) bytes c.set_phandle.ensures.allowed)

pub returns-clause-refused : goal.returns-clause-refused
returns-clause-refused c value e =
    let slots = c.args.self.now.slots in
    let named : c.args.name.now ≡ codes "phandle" = sym c.as_bytes-name.ensures.value ∙ named_phandle c.as_bytes-name.result.now c.as_slice.result.now c.as_slice.ensures c.if-ne.ensures in
    let bytes : c.to_be_bytes.result ≡ with_cell value c.args.offset c.args.number =
    c.to_be_bytes.ensures ∙ sym (whole_phandle slots c.self.inside.places c.args.node c.args.name.now value c.requires.cell.0 c.args.offset c.args.number named (ap (λ (t : Arena). t.slots) c.self.view_is) c.self.invariant.valid.phandles e c.requires.cell.1 c.requires.cell.2) in
    subst (λ (n : List ℕ). IfErr c.set_phandle.result (λ fault. WhyNotSet fault.kind slots c.args.node n (with_cell value c.args.offset c.args.number) × (fault.at ≡ None))) (sym named)
    (subst (λ (v : List ℕ). IfErr c.set_phandle.result (λ fault. WhyNotSet fault.kind slots c.args.node (codes "phandle") v × (fault.at ≡ None))) bytes c.set_phandle.ensures.refused)
