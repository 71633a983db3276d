use Rattle.std.proofs.Common.{arith}
use Rattle.dt_marks.proofs.Listing.{property_turn}
use Rattle.dt_marks.proofs.fixup_texts.list_properties.Goals as goal

pub loop-property-preserved : goal.loop-property-preserved
loop-property-preserved c =
    property_turn c.loop-property.table c.list_property.new.table c.args.path.now c.args.properties.now c.loop-property.property-index c.property-item.result _ (omega arith)
    c.property-item.is c.in_ok-list_property.ensures c.loop-property.invariant
