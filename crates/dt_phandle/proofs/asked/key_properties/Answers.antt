use Rattle.std.proofs.Common.{ℕ, ◌+◌, ◌≤◌, List, length, map, drop, sym, ap, ◌∙◌, subst, arith}
use Rattle.std.specs.List.{AllByRecursion}
use Rattle.std.proofs.lemmas.List.{drop_all}
use Rattle.dt_model.specs.NamedOf.{IsBelow}
use Rattle.dt_model.specs.Meaning.{EachReference}
use Rattle.dt_source_named_tree.specs.Said.{property_said, value_said}
use Rattle.dt_source_named_tree.specs.declared.named.NamedProperty.{NamedProperty}
use Rattle.dt_phandle.specs.Asking.{asked_said, keyed_too, is_in_value, is_in_properties}
use Rattle.dt_phandle.proofs.Asking.{next_item, several_turn, keyed_none}
use Rattle.dt_phandle.proofs.asked.key_properties.Goals as goal

pub key_value-requires : goal.key_value-requires
key_value-requires c =
    let i = c.loop-property.property-index in
    let next = next_item c.args.properties.now i c.property-item.result (omega arith) c.property-item.is in
    let P = λ (ps : List NamedProperty). AllByRecursion (λ p. EachReference (IsBelow (length c.args.asked.now)) p.value) (map property_said ps) in
    let each = subst P next c.loop-property.invariant.referred in
    subst (λ (n : ℕ). EachReference (IsBelow n) (value_said c.property-item.result.value)) (sym c.loop-property.auto.asked) each.0

pub loop-property-preserved : goal.loop-property-preserved
loop-property-preserved c =
    let i = c.loop-property.property-index in
    let next = next_item c.args.properties.now i c.property-item.result (omega arith) c.property-item.is in
    let P = λ (ps : List NamedProperty). AllByRecursion (λ p. EachReference (IsBelow (length c.args.asked.now)) p.value) (map property_said ps) in
    let each = subst P next c.loop-property.invariant.referred in
    let rest = map property_said (drop (i + 1) c.args.properties.now) in
    record {
      referred = each.1;
      same = several_turn (is_in_value (value_said c.property-item.result.value)) (is_in_properties rest)
          (is_in_properties (map property_said (drop i c.args.properties.now))) c.loop-property.asked c.key_value.new.asked
          (keyed_too (is_in_properties (map property_said c.args.properties.now)) 0 (map asked_said c.args.asked.now))
          (λ k. ap (λ (ps : List NamedProperty). is_in_properties (map property_said ps) k) next)
          c.key_value.ensures c.loop-property.invariant.same;
    }

pub returns : goal.returns
returns c =
    let properties = c.args.properties.now in
    let i = c.loop-property.property-index in
    let past : length properties ≤ i = omega arith in
    sym (keyed_none (is_in_properties (map property_said (drop i properties))) 0 (map asked_said c.loop-property.asked)
    (λ k le. ap (λ (ps : List NamedProperty). is_in_properties (map property_said ps) k) (drop_all i properties past)))
    ∙ c.loop-property.invariant.same
