use Rattle.std.proofs.Common.{◌+◌, List, map, drop, arith, sym, ap, ◌∙◌, subst}
use Rattle.dt_model.specs.Instance.{numbered}
use Rattle.dt_model.specs.Tree.{Property}
use Rattle.dt_source_named_tree.specs.Said.{property_said}
use Rattle.dt_source_named_tree.specs.declared.named.NamedProperty.{NamedProperty}
use Rattle.dt_flat.specs.Planted.{with_properties}
use Rattle.dt_phandle.specs.Growth.{MayHave}
use Rattle.dt_phandle.proofs.Asking.{next_item}
use Rattle.dt_phandle.proofs.Growing.{set_turn}
use Rattle.dt_phandle.proofs.numbered.set_properties.Goals as goal

pub loop-property-preserved : goal.loop-property-preserved
loop-property-preserved c =
    let ps = c.args.properties.now in
    let i = c.loop-property.property-index in
    let q = c.property-item.result in
    let next = next_item ps i q (omega arith) c.property-item.is in
    let F : List NamedProperty → List Property = λ qs. map (numbered c.args.numbering.now) (map property_said qs) in
    let old = c.loop-property.tree in
    let may = subst (λ (qs : List NamedProperty). MayHave old.slots c.args.id (F qs)) next c.loop-property.invariant.may in
    let after = set_turn old c.plant_prop.new.self c.args.id (numbered c.args.numbering.now (property_said q)) (F (drop (i + 1) ps)) c.known-name.result c.in_ok-value.value.now
    may c.known-name.ensures c.in_ok-value.ensures c.in_ok-plant_prop.ensures.ok in
    record {
      may = after.0;
      same = after.1 ∙ ap (λ (qs : List NamedProperty). record old { slots = with_properties old.slots c.args.id (F qs) }) (sym next) ∙ c.loop-property.invariant.same;
    }

pub known-name-requires : goal.known-name-requires
known-name-requires c =
    let ps = c.args.properties.now in
    let i = c.loop-property.property-index in
    let q = c.property-item.result in
    let next = next_item ps i q (omega arith) c.property-item.is in
    (subst (λ (qs : List NamedProperty). MayHave c.loop-property.tree.slots c.args.id (map (numbered c.args.numbering.now) (map property_said qs))) next c.loop-property.invariant.may).named.0
