use Rattle.std.proofs.Common.{◌+◌, true, false, drop, codes, arith, sym, ◌∙◌}
use Rattle.dt_phandle.proofs.Asking.{next_item, value_first}
use Rattle.dt_phandle.proofs.asked.phandle_value.Goals as goal

pub returns-then-eq : goal.returns-then-eq
returns-then-eq c =
    let ps = c.args.properties.now in
    let i = c.loop-property.property-index in
    let p = c.property-item.result in
    let next = next_item ps i p (omega arith) c.property-item.is in
    let found = value_first (drop i ps) (drop (i + 1) ps) p (codes "phandle") c.as_slice.result.now true next c.as_slice.ensures c.if-eq.ensures in
    sym found ∙ c.loop-property.invariant

pub loop-property-preserved : goal.loop-property-preserved
loop-property-preserved c =
    let ps = c.args.properties.now in
    let i = c.loop-property.property-index in
    let p = c.property-item.result in
    let next = next_item ps i p (omega arith) c.property-item.is in
    sym (value_first (drop i ps) (drop (i + 1) ps) p (codes "phandle") c.as_slice.result.now false next c.as_slice.ensures c.if-eq.ensures) ∙ c.loop-property.invariant
