use Rattle.std.proofs.Common.{sym, ◌∙◌, arith}
use Rattle.dt_names.specs.declared.fault.FaultKind.TheVariants.{NoUnitAddress}
use Rattle.dt_trees.specs.Placed.{reading_of}
use Rattle.dt_resolve_model.specs.World.{tree_world, value_of_bytes}
use Rattle.dt_resolve_model.proofs.Told.{refuses}
use Rattle.dt_resolve_model.proofs.QuadsOfBytes.{quad_count}
use Rattle.dt_irq.specs.Seen.{interrupt_in}
use Rattle.dt_irq.proofs.MapSteps.{too_short, hop_is}
use Rattle.dt_irq.proofs.hops.hop.Goals as goal

pub returns-then-at-address-clause-is : goal.returns-then-at-address-clause-is
returns-then-at-address-clause-is g c =
    let t = g.V.TreeView.tree c.args.view.now in
    let count = quad_count c.args.at.now.unit.now in
    refuses c.of.result NoUnitAddress c.of.ensures.kind c.of.ensures.at
    ∙ sym (too_short (tree_world (reading_of t)) (interrupt_in t c.args.at.now) (value_of_bytes c.args.map.now) c.in_ok-address.field-0 c.in_ok-specifier.specifier (sym c.in_ok-address.ensures.is) (sym c.in_ok-specifier.ensures.is) (omega (arith, count)))

pub returns-clause-is : goal.returns-clause-is
returns-clause-is g c =
    let t = g.V.TreeView.tree c.args.view.now in
    let count = quad_count c.args.at.now.unit.now in
    c.led.ensures.is
    ∙ sym (hop_is (tree_world (reading_of t)) (interrupt_in t c.args.at.now) (value_of_bytes c.args.map.now) c.in_ok-address.field-0 c.in_ok-specifier.specifier (sym c.in_ok-address.ensures.is) (sym c.in_ok-specifier.ensures.is) (omega (arith, count)))
