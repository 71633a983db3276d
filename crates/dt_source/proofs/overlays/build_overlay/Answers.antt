use Rattle.std.proofs.Common.{◌≡◌, ◌<◌, ◌∙◌, inr, List, [], None, map, length, sym, subst, arith}
use Rattle.std.proofs.lemmas.List.{length-map}
use Rattle.std.proofs.lemmas.Result.{err_from_is_err_and}
use Rattle.dt_model.specs.Limits.{most_nodes}
use Rattle.dt_model.specs.Named.{tree_of}
use Rattle.dt_model.specs.NamedOverlay.{IsNamedOverlayOf}
use Rattle.dt_model.specs.Refused.{too_many}
use Rattle.dt_model.specs.Source.{Place}
use Rattle.dt_model_laws.specs.OverlayChecks.{AreBehind, AreChecked}
use Rattle.dt_names.specs.declared.fault.Fault.{Fault}
use Rattle.dt_names.specs.declared.fault.FaultKind.TheVariants.{Limit}
use Rattle.dt_source_items.specs.Said.{reservation_said}
use Rattle.dt_source_fragments.specs.Fragments.{IsUnchecked, fragment_said}
use Rattle.dt_source.specs.Fragments.{AreOverlayNodes}
use Rattle.dt_source.specs.Meant.{ListedOverlay}
use Rattle.dt_source.specs.Refusals.{WhyNoOverlay, WhyNoOverlayRead, fault_place}
use Rattle.dt_source_named_tree.specs.Said.{IsTree, list_said, node_said}
use Rattle.dt_source_named_tree.specs.declared.named.NamedNode.{NamedNode}
use Rattle.dt_source.proofs.BuiltOverlays.{are_behind, overlay_means, overlay_may_be_whole, too_many_stand, late_overlay_refused, no_overlay_read, none_reserved}
use Rattle.dt_source.proofs.BuiltTrees.{answered_result, refused_result}
use Rattle.dt_source.proofs.overlays.build_overlay.Goals as goal

pub returns-in_err-nodes-clause-refused : goal.returns-in_err-nodes-clause-refused
returns-in_err-nodes-clause-refused c =
    let s = c.args.source.now in
    let e = err_from_is_err_and c.from_residual.result c.from_residual.ensures.1 in
    let none = none_reserved reservation_said c.reservations.result.now s.reservations c.reservations.ensures (sym c.is_empty.ensures ∙ c.if-not-is_empty.false) in
    rw (e.1, e.2)
    (no_overlay_read s c.in_err-nodes.field-0.0 (sym c.is_overlay.ensures ∙ c.if-not-is_overlay.false) none
    (subst (λ (ps : List Place). WhyNoOverlayRead ps c.in_err-nodes.field-0.0) c.items.ensures c.in_err-nodes.ensures))

pub checked_fragments-requires : goal.checked_fragments-requires
checked_fragments-requires c =
    let places = c.args.source.now.places in
    let ns = map node_said c.in_ok-nodes.nodes.items in
    let h = subst (λ (ps : List Place). AreOverlayNodes ps ns) c.items.ensures c.in_ok-nodes.ensures in
    subst (λ (nodes : List NamedNode). AreBehind (map node_said nodes)) (sym c.deref.ensures.value) (are_behind places ns h c.nodes_are_behind.ensures)

pub returns-in_err-fragments-clause-refused : goal.returns-in_err-fragments-clause-refused
returns-in_err-fragments-clause-refused c =
    let s = c.args.source.now in
    let ns = map node_said c.in_ok-nodes.nodes.items in
    let h = subst (λ (ps : List Place). AreOverlayNodes ps ns) c.items.ensures c.in_ok-nodes.ensures in
    let e = err_from_is_err_and c.from_residual-in_err-fragments.result c.from_residual-in_err-fragments.ensures.1 in
    let fault = c.in_err-fragments.field-0.0 in
    let none = none_reserved reservation_said c.reservations.result.now s.reservations c.reservations.ensures (sym c.is_empty.ensures ∙ c.if-not-is_empty.false) in
    let why = subst (λ (nodes : List NamedNode). IsUnchecked (map node_said nodes) fault) c.deref.ensures.value c.in_err-fragments.ensures in
    rw (e.1, e.2)
    (no_overlay_read s fault (sym c.is_overlay.ensures ∙ c.if-not-is_overlay.false) none
    (late_overlay_refused s.places ns h c.checked_overlay_is_meant.ensures.untargeted c.checked_overlay_is_meant.ensures.uncontained fault why))

pub whole_overlay-requires : goal.whole_overlay-requires
whole_overlay-requires c =
    let places = c.args.source.now.places in
    let ns = map node_said c.in_ok-nodes.nodes.items in
    let fs = map fragment_said c.in_ok-fragments.fragments.items in
    let h = subst (λ (ps : List Place). AreOverlayNodes ps ns) c.items.ensures c.in_ok-nodes.ensures in
    let checked = subst (λ (nodes : List NamedNode). AreChecked (map node_said nodes) fs) c.deref.ensures.value c.in_ok-fragments.ensures in
    overlay_may_be_whole places ns h fs checked c.checked_overlay_is_meant.ensures.meant c.spelled.ensures.nested c.list_is_of_its_tree.ensures c.overlay_is_named.ensures.named c.spelled.ensures.places

pub returns-clause-meant : goal.returns-clause-meant
returns-clause-meant c =
    let places = c.args.source.now.places in
    let ns = map node_said c.in_ok-nodes.nodes.items in
    let fs = map fragment_said c.in_ok-fragments.fragments.items in
    let h = subst (λ (ps : List Place). AreOverlayNodes ps ns) c.items.ensures c.in_ok-nodes.ensures in
    let checked = subst (λ (nodes : List NamedNode). AreChecked (map node_said nodes) fs) c.deref.ensures.value c.in_ok-fragments.ensures in
    let means = overlay_means places ns h fs checked c.checked_overlay_is_meant.ensures.meant c.spelled.ensures.nested c.list_is_of_its_tree.ensures in
    answered_result (λ (o : ListedOverlay). (o ≡ record { tree = list_said [] c.in_ok-nodes.nodes.items; fragments = fs }) × IsTree (list_said [] c.in_ok-nodes.nodes.items))
    (λ (o : ListedOverlay). IsNamedOverlayOf places (tree_of o.tree) o.fragments) _
    (λ o is. subst (λ (x : ListedOverlay). IsNamedOverlayOf places (tree_of x.tree) x.fragments) (sym is.0) means)
    c.whole_overlay.result c.whole_overlay.ensures

pub returns-clause-refused : goal.returns-clause-refused
returns-clause-refused c =
    let s = c.args.source.now in
    let ns = map node_said c.in_ok-nodes.nodes.items in
    let fs = map fragment_said c.in_ok-fragments.fragments.items in
    let h = subst (λ (ps : List Place). AreOverlayNodes ps ns) c.items.ensures c.in_ok-nodes.ensures in
    let checked = subst (λ (nodes : List NamedNode). AreChecked (map node_said nodes) fs) c.deref.ensures.value c.in_ok-fragments.ensures in
    let none = none_reserved reservation_said c.reservations.result.now s.reservations c.reservations.ensures (sym c.is_empty.ensures ∙ c.if-not-is_empty.false) in
    refused_result _ (λ (fault : Fault). (fault.kind ≡ Limit) × (fault.at ≡ None) × (most_nodes < length c.in_ok-nodes.nodes.items))
    (λ (fault : Fault). WhyNoOverlay fault.kind s × (fault.at ≡ fault_place fault.kind))
    (λ fault why. no_overlay_read s fault (sym c.is_overlay.ensures ∙ c.if-not-is_overlay.false) none (
      why.1,
      inr (
        too_many,
        too_many_stand s.places ns h fs checked c.checked_overlay_is_meant.ensures.meant c.spelled.ensures.nested c.overlay_is_named.ensures.many (omega (arith, why.2, length-map c.in_ok-nodes.nodes.items node_said)),
        why.0,
      ),
    ))
    c.whole_overlay.result c.whole_overlay.ensures
