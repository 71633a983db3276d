use Rattle.std.proofs.Common.{rules, ◌≡◌, ◌∙◌, ap, refl, None, IfErr}
use Rattle.std.proofs.lemmas.Result.{IfErr-weaker}
use Rattle.dt_names.specs.declared.fault.Fault.{Fault}
use Rattle.dt_flat.specs.Arena.{reading}
use Rattle.dt_flat.specs.Refusals.{WhyNoNode}
use Rattle.dt_flat.proofs.Changing.{child_by_path}
use Rattle.dt_overlay_base.specs.FlatTargets.{HasRoom}
use Rattle.dt_overlay_base.specs.Targets.{WhyNotAddedAt}
use Rattle.dt_overlay_base.proofs.Changeable.{may_add-at, why_not_added-at}
use Rattle.dt_overlay_base.proofs.flat_target.FlatTreeTarget.add_node.Goals as goal

pub returns-in_err-add_node-clause-refused : goal.returns-in_err-add_node-clause-refused
returns-in_err-add_node-clause-refused c =
    let a = c.args.self.now in
    let i = c.node_at-node.result in
    let name = c.args.name.now in
    let told : IfErr c.from_residual.result (λ (fault : Fault). WhyNoNode fault.kind a.slots i name × (fault.at ≡ None)) = search rules in
    IfErr-weaker c.from_residual.result (λ (fault : Fault). WhyNoNode fault.kind a.slots i name × (fault.at ≡ None)) (λ (fault : Fault). WhyNotAddedAt (HasRoom a) fault.kind (reading a) c.args.parent.now name × (fault.at ≡ None))
    (λ fault why. (why_not_added-at a c.args.parent.now i name fault.kind c.node_at-node.ensures why.0, why.1)) told

pub returns-clause-ok : goal.returns-clause-ok
returns-clause-ok c =
    let placed = c.node_at-node.ensures in
    let may = c.in_ok-add_node.ensures.may refl in
    ap reading c.in_ok-add_node.ensures.ok.1 ∙ child_by_path c.args.self.now c.args.parent.now c.node_at-node.result c.args.name.now placed.rooted placed.leads may.fresh

pub returns-clause-allowed : goal.returns-clause-allowed
returns-clause-allowed c ok = may_add-at c.args.self.now c.args.parent.now c.node_at-node.result c.args.name.now c.node_at-node.ensures (c.in_ok-add_node.ensures.may refl)
