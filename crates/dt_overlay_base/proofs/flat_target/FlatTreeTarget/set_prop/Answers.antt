use Rattle.std.proofs.Common.{◌≡◌, ◌∙◌, sym, ap, refl, None}
use Rattle.std.specs.Int.{w32, from_be_bytes}
use Rattle.std.proofs.lemmas.Nat.{be_bytes_4}
use Rattle.std.proofs.lemmas.Result.{on_ok_weaker, IfErr-weaker}
use Rattle.dt_names.specs.declared.fault.Fault.{Fault}
use Rattle.dt_flat.specs.Arena.{reading}
use Rattle.dt_flat.specs.Refusals.{WhyNotSet}
use Rattle.dt_flat.proofs.Changing.{property_by_path}
use Rattle.dt_overlay_base.specs.FlatTargets.{HasRoom}
use Rattle.dt_overlay_base.specs.Targets.{WhyNotSetAt}
use Rattle.dt_overlay_base.proofs.Changeable.{room_at, may_set-at, why_not_set-at}
use Rattle.dt_overlay_base.proofs.flat_target.FlatTreeTarget.set_prop.Goals as goal

pub returns-clause-ok : goal.returns-clause-ok
returns-clause-ok c =
    let placed = c.node_at-node.ensures in
    on_ok_weaker c.set_prop.result (λ e. ap reading e ∙ property_by_path c.args.self.now c.args.path.now c.node_at-node.result c.args.name.now c.args.value.now placed.rooted placed.leads) c.set_prop.ensures.ok

pub returns-clause-allowed : goal.returns-clause-allowed
returns-clause-allowed c ok =
    room_at c.args.self.now c.args.path.now c.args.name.now c.args.value.now c.validity.ensures.within.count
    (may_set-at c.args.self.now c.args.path.now c.node_at-node.result c.args.name.now c.args.value.now c.node_at-node.ensures (c.set_prop.ensures.allowed ok))

pub returns-clause-refused : goal.returns-clause-refused
returns-clause-refused c =
    let a = c.args.self.now in
    let i = c.node_at-node.result in
    let name = c.args.name.now in
    let value = c.args.value.now in
    IfErr-weaker c.set_prop.result (λ (fault : Fault). WhyNotSet fault.kind a.slots i name value × (fault.at ≡ None)) (λ (fault : Fault). WhyNotSetAt (HasRoom a) fault.kind (reading a) c.args.path.now name value × (fault.at ≡ None))
    (λ fault why. (why_not_set-at a c.args.path.now i name value fault.kind c.validity.ensures.within.count c.node_at-node.ensures (λ named four. sym (be_bytes_4 value (from_be_bytes w32 value) four (λ k. (c.type_inv.value k).fits) refl)) why.0, why.1))
    c.set_prop.ensures.refused
