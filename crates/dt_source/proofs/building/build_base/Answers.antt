use Rattle.std.proofs.Common.{◌≡◌, ◌<◌, ◌∙◌, ℕ, None, List, length, map, sym, subst, false, arith}
use Rattle.std.proofs.lemmas.List.{length-map}
use Rattle.dt_names.specs.declared.fault.Fault.{Fault}
use Rattle.dt_names.specs.declared.fault.FaultKind.TheVariants.{Limit}
use Rattle.dt_model.specs.Limits.{most_nodes}
use Rattle.dt_model.specs.Named.{NodeReference, NamedList, tree_of}
use Rattle.dt_model.specs.NamedOf.{IsNamedOf}
use Rattle.dt_model.specs.Source.{Place}
use Rattle.dt_source.specs.Building.{AreNodesOf, MayBeWhole}
use Rattle.dt_source.specs.Meant.{HasTree}
use Rattle.dt_source_bodies.specs.Refusals.{mode_said}
use Rattle.dt_source.specs.Refusals.{WhyNotNamed, fault_place}
use Rattle.dt_source_named_tree.specs.Said.{IsTree, list_said, node_said}
use Rattle.dt_source.proofs.BuiltTrees.{tree_means, may_be_whole, many_are_refused, too_many_named, answered_result, refused_result}
use Rattle.dt_source.proofs.building.build_base.Goals as goal

pub whole-requires : goal.whole-requires
whole-requires c =
    let s = c.args.source.now in
    let mode = mode_said c.args.mode in
    let ns = map node_said c.in_ok-nodes.nodes.items in
    let h = subst (λ (ps : List Place). AreNodesOf mode ps ns) c.items.ensures c.in_ok-nodes.ensures in
    subst (λ (rs : List (ℕ × ℕ)). MayBeWhole (record { reservations = rs; nodes = ns })) (sym (c.in_ok-reservations.ensures ∙ c.reservations.ensures))
    (may_be_whole mode s ns h c.list_is_of_its_tree.ensures c.meant_is_named.ensures c.spelled.ensures.nested c.nested_places.ensures.closed
    c.spelled.ensures.some c.spelled.ensures.places c.spelled.ensures.reservations)

pub returns-clause-tree : goal.returns-clause-tree
returns-clause-tree c =
    let s = c.args.source.now in
    let mode = mode_said c.args.mode in
    let ns = map node_said c.in_ok-nodes.nodes.items in
    let h = subst (λ (ps : List Place). AreNodesOf mode ps ns) c.items.ensures c.in_ok-nodes.ensures in
    let means = tree_means mode s ns h c.list_is_of_its_tree.ensures c.spelled.ensures.nested c.nested_places.ensures.closed in
    let l : NamedList NodeReference = list_said c.in_ok-reservations.reservations.items c.in_ok-nodes.nodes.items in
    let named : IsNamedOf mode s.reservations s.places (tree_of l) =
    subst (λ (rs : List (ℕ × ℕ)). IsNamedOf mode s.reservations s.places (tree_of (record { reservations = rs; nodes = ns }))) (sym (c.in_ok-reservations.ensures ∙ c.reservations.ensures)) means in
    answered_result (λ (t : NamedList NodeReference). (t ≡ l) × IsTree t) (λ (t : NamedList NodeReference). HasTree mode s (tree_of t)) _
    (λ t is. record {
      plain = sym c.is_overlay.ensures ∙ c.if-is_overlay.false;
      means = subst (λ (u : NamedList NodeReference). IsNamedOf mode s.reservations s.places (tree_of u)) (sym is.0) named;
      named = is.1.named;
    })
    c.whole.result c.whole.ensures

pub returns-clause-refused : goal.returns-clause-refused
returns-clause-refused c =
    let s = c.args.source.now in
    let mode = mode_said c.args.mode in
    let ns = map node_said c.in_ok-nodes.nodes.items in
    let h = subst (λ (ps : List Place). AreNodesOf mode ps ns) c.items.ensures c.in_ok-nodes.ensures in
    let plain : s.plugin ≡ false = sym c.is_overlay.ensures ∙ c.if-is_overlay.false in
    refused_result _ (λ (fault : Fault). (fault.kind ≡ Limit) × (fault.at ≡ None) × (most_nodes < length c.in_ok-nodes.nodes.items))
    (λ (fault : Fault). WhyNotNamed mode fault.kind s × (fault.at ≡ fault_place fault.kind))
    (λ fault why. too_many_named mode s fault plain why.0 why.1
    (many_are_refused mode s ns h c.many_stand.ensures c.spelled.ensures.nested c.nested_places.ensures.closed (omega (arith, why.2, length-map c.in_ok-nodes.nodes.items node_said))))
    c.whole.result c.whole.ensures
