use Rattle.std.proofs.Common.{ℕ, ◌+◌, ◌≤◌, List, length, map, drop, sym, ap, ◌∙◌, subst, arith}
use Rattle.std.specs.List.{AllByRecursion}
use Rattle.std.proofs.lemmas.List.{drop_all}
use Rattle.dt_model.specs.Meaning.{EachReference}
use Rattle.dt_model.specs.NamedOf.{IsBelow, RefersBelow}
use Rattle.dt_source_named_tree.specs.Said.{property_said}
use Rattle.dt_source_named_tree.specs.declared.named.NamedProperty.{NamedProperty}
use Rattle.dt_source_named_tree.specs.declared.named.NamedNode.{NamedNode}
use Rattle.dt_phandle.specs.Asking.{asked_said, content_said, keyed_too, is_in_properties, is_in_nodes}
use Rattle.dt_phandle.proofs.Asking.{next_item, several_turn, keyed_none}
use Rattle.dt_phandle.proofs.asked.key_nodes.Goals as goal

pub key_properties-requires : goal.key_properties-requires
key_properties-requires c =
    let i = c.loop-node.node-index in
    let next = next_item c.args.nodes.now i c.node-item.result (omega arith) c.node-item.is in
    let P = λ (ps : List NamedNode). AllByRecursion (RefersBelow (length c.args.asked.now)) (map content_said ps) in
    let each = subst P next c.loop-node.invariant.referred in
    let here = subst (λ (n : ℕ). RefersBelow n (content_said c.node-item.result)) (sym c.loop-node.auto.asked) each.0 in
    subst (λ (ps : List NamedProperty). AllByRecursion (λ p. EachReference (IsBelow (length c.loop-node.asked)) p.value) (map property_said ps)) (sym c.deref.ensures.value) here

pub loop-node-preserved : goal.loop-node-preserved
loop-node-preserved c =
    let i = c.loop-node.node-index in
    let next = next_item c.args.nodes.now i c.node-item.result (omega arith) c.node-item.is in
    let P = λ (ps : List NamedNode). AllByRecursion (RefersBelow (length c.args.asked.now)) (map content_said ps) in
    let each = subst P next c.loop-node.invariant.referred in
    let rest = map content_said (drop (i + 1) c.args.nodes.now) in
    record {
      referred = each.1;
      same = several_turn (is_in_properties (content_said c.node-item.result).properties) (is_in_nodes rest)
          (is_in_nodes (map content_said (drop i c.args.nodes.now))) c.loop-node.asked c.key_properties.new.asked
          (keyed_too (is_in_nodes (map content_said c.args.nodes.now)) 0 (map asked_said c.args.asked.now))
          (λ k. ap (λ (ps : List NamedNode). is_in_nodes (map content_said ps) k) next)
          (c.key_properties.ensures ∙ ap (λ (ps : List NamedProperty). keyed_too (is_in_properties (map property_said ps)) 0 (map asked_said c.loop-node.asked)) c.deref.ensures.value)
          c.loop-node.invariant.same;
    }

pub returns : goal.returns
returns c =
    let nodes = c.args.nodes.now in
    let i = c.loop-node.node-index in
    let past : length nodes ≤ i = omega arith in
    sym (keyed_none (is_in_nodes (map content_said (drop i nodes))) 0 (map asked_said c.loop-node.asked)
    (λ k le. ap (λ (ps : List NamedNode). is_in_nodes (map content_said ps) k) (drop_all i nodes past)))
    ∙ c.loop-node.invariant.same
