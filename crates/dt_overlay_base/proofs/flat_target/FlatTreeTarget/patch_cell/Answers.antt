use Rattle.std.proofs.Common.{◌≡◌, ◌∙◌, sym, ap, None, Some}
use Rattle.std.proofs.lemmas.Result.{on_ok_weaker, IfErr-weaker}
use Rattle.dt_model.specs.Applied.{with_cell}
use Rattle.dt_model.specs.Tree.{value_of}
use Rattle.dt_names.specs.declared.fault.Fault.{Fault}
use Rattle.dt_flat.specs.Arena.{reading, properties}
use Rattle.dt_flat.specs.Refusals.{WhyNotSet}
use Rattle.dt_flat.proofs.Changing.{property_by_path}
use Rattle.dt_overlay_base.specs.FlatTargets.{HasRoom}
use Rattle.dt_overlay_base.specs.Targets.{WhyNotSetAt}
use Rattle.dt_overlay_base.proofs.Changeable.{room_at, may_set-at, why_not_set-at, whole_patched}
use Rattle.dt_overlay_base.proofs.Reached.{value-led}
use Rattle.dt_overlay_base.proofs.flat_target.FlatTreeTarget.patch_cell.Goals as goal

pub patch_cell-requires-clause-cell : goal.patch_cell-requires-clause-cell
patch_cell-requires-clause-cell c =
    let led = value-led c.args.self.now c.args.path.now c.node_at-node.result c.args.name.now c.node_at-node.ensures.leads in
    (c.requires.0, sym led ∙ c.requires.1, c.requires.2)

pub returns-clause-ok : goal.returns-clause-ok
returns-clause-ok c value e =
    let placed = c.node_at-node.ensures in
    let led = value-led c.args.self.now c.args.path.now c.node_at-node.result c.args.name.now placed.leads in
    on_ok_weaker c.patch_cell.result
    (λ changed. ap reading changed ∙ property_by_path c.args.self.now c.args.path.now c.node_at-node.result c.args.name.now (with_cell value c.args.offset c.args.number) placed.rooted placed.leads)
    (c.patch_cell.ensures.ok value (sym led ∙ e))

pub returns-clause-allowed : goal.returns-clause-allowed
returns-clause-allowed c value e ok =
    let placed = c.node_at-node.ensures in
    let led = value-led c.args.self.now c.args.path.now c.node_at-node.result c.args.name.now placed.leads in
    room_at c.args.self.now c.args.path.now c.args.name.now (with_cell value c.args.offset c.args.number) c.validity.ensures.within.count
    (may_set-at c.args.self.now c.args.path.now c.node_at-node.result c.args.name.now (with_cell value c.args.offset c.args.number) placed (c.patch_cell.ensures.allowed value (sym led ∙ e) ok))

pub returns-clause-refused : goal.returns-clause-refused
returns-clause-refused c value e =
    let a = c.args.self.now in
    let i = c.node_at-node.result in
    let name = c.args.name.now in
    let placed = c.node_at-node.ensures in
    let led = value-led a c.args.path.now i name placed.leads in
    let at : value_of (properties a.slots i) name ≡ Some value = sym led ∙ e in
    let there : value_of (properties a.slots i) name ≡ Some c.requires.0 = sym led ∙ c.requires.1 in
    let patched = with_cell value c.args.offset c.args.number in
    IfErr-weaker c.patch_cell.result (λ (fault : Fault). WhyNotSet fault.kind a.slots i name patched × (fault.at ≡ None)) (λ (fault : Fault). WhyNotSetAt (HasRoom a) fault.kind (reading a) c.args.path.now name patched × (fault.at ≡ None))
    (λ fault why. (why_not_set-at a c.args.path.now i name patched fault.kind c.validity.ensures.within.count placed (whole_patched a c.args.path.now i name value c.requires.0 c.args.offset c.args.number placed c.ranges.number.fits at there c.requires.2) why.0, why.1))
    (c.patch_cell.ensures.refused value at)
