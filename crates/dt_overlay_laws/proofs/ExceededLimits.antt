-- A limit is told only where the tree that would come of the object exceeds it.
use Rattle.std.proofs.Common.{◌≡◌, true, List, [], ◌∷◌, codes, sym, ap, subst, ◌+◌, ◌<◌, ◌≤◌, ◌∙◌, inl, inr, Some, arith}
use Rattle.std.specs.List.{list_any}
use Rattle.dt_model.specs.Names.{Name}
use Rattle.dt_model.specs.Path.{Path}
use Rattle.dt_model.specs.Merged.{sources}
use Rattle.dt_model.specs.Object.{Cell, properties_of}
use Rattle.dt_model.specs.Tree.{Property, Reading, node_at, stands_in}
use Rattle.dt_model.specs.Limits.{most_nodes}
use Rattle.dt_model.specs.Valid.{IsValid, IsWithinLimits, node_count}
use Rattle.dt_model.specs.Changes.{with_child_at}
use Rattle.dt_model.specs.Applied.{writes, with_fragments, landed_symbols, with_symbols_merged}
use Rattle.dt_names.specs.declared.fault.FaultKind.TheVariants.{Limit}
use Rattle.dt_model.proofs.Tests.{any_here, or_left}
use Rattle.dt_model_laws.proofs.Landing.{stands-with_fragments}
use Rattle.dt_model_laws.proofs.Lands.{source_of}
use Rattle.dt_overlay_model.specs.Walk.{new_numbers}
use Rattle.dt_overlay_model.proofs.Lookups.{are_there}
use Rattle.dt_overlay_laws.specs.Outcomes.{LimitIsExceeded}
use Rattle.dt_model.proofs.Depths.{within_depth}
use Rattle.dt_overlay_laws.proofs.LandedNodes.{symbols_are_merged}
use Rattle.dt_overlay_laws.proofs.RefusedOutcomes.{LandsTooDeep, applied_with, applied_deep}
use Rattle.dt_overlay_laws.proofs.Crowded.{crowded_over}
use Rattle.dt_overlay_laws.proofs.SingleChanges.{child_kept, properties_kept}

-- what stands goes on standing where symbols are merged
symbols_kept : (ps : List Property) (t : Reading) (q : Path) → stands_in t q ≡ true → stands_in (with_symbols_merged ps t) q ≡ true
symbols_kept [] t q h = h
symbols_kept (p ∷ ps) t q h =
    ap (λ z. stands_in z q) (sym (symbols_are_merged p ps t))
    ∙ properties_kept (codes "__symbols__" ∷ []) (p ∷ ps) (with_child_at [] (codes "__symbols__") t) q (child_kept [] (codes "__symbols__") t q h)

-- a node that lands too deep stands in what comes of the object, which is too deep
too_deep : (base object t : Reading) (fixups : List (Name × Cell)) → IsValid base → IsValid object → LandsTooDeep base object fixups t Limit → IsWithinLimits t → ⊥
too_deep base object t fixups valid_base valid h within =
    let numbers = new_numbers base object h.of.end in
    let tree = with_fragments base object (writes base object fixups numbers) numbers h.of.end.sites in
    let any = any_here (stands_in object) (sources h.of.end.sites h.to) h.from (source_of h.of.end.sites h.from h.to h.lands) h.stands in
    let stands : stands_in tree h.to ≡ true =
    stands-with_fragments object (writes base object fixups numbers) numbers valid h.of.end.sites base h.to (are_there base object fixups valid_base valid h.of.end h.of.ended h.of.may)
    ∙ or_left (list_any (stands_in object) (sources h.of.end.sites h.to)) (stands_in base h.to) any in
    let there : stands_in t h.to ≡ true = ap (λ z. stands_in z h.to) h.of.is ∙ symbols_kept (landed_symbols object h.of.end.sites (properties_of (node_at object (codes "__symbols__" ∷ [])))) tree h.to stands in
    let low = within_depth t h.to within there in
    let deep = h.deep in
    omega (arith, low, deep)

pub limit_is_exceeded : LimitIsExceeded
limit_is_exceeded base object t valid_base valid is (inl none) within =
    too_deep base object t none.fixups valid_base valid (applied_deep base object t Limit valid none (applied_with base object t none.fixups is none.listed)) within
limit_is_exceeded base object t valid_base valid is (inr crowded) within =
    let over = crowded_over base object crowded in
    let z : Some t ≡ Some over.result = sym (applied_with base object t over.applied.fixups is over.applied.listed) ∙ over.applied.is in
    let same : t ≡ over.result = cc in
    let few : 1 + node_count t.children ≤ most_nodes = within.count in
    let many : most_nodes < 1 + node_count t.children = subst (λ (u : Reading). most_nodes < 1 + node_count u.children) (sym same) over.many in
    omega (arith, few, many)
