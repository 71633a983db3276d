-- A tree with the nodes of its cells: how it is read, and when it is within the limits.
use Rattle.std.proofs.Common.{◌≡◌, ℕ, ◌+◌, ◌<◌, ◌≤◌, List, [], ◌∷◌, ◌++◌, length, None, refl, sym, ap, ◌∙◌, subst, codes, arith}
use Rattle.std.specs.List.{AllByRecursion}
use Rattle.std.proofs.lemmas.List.{length-append}
use Rattle.dt_model.specs.Fixups.{outside_cells, fixups, local_properties, mirror, unless_empty, fixup_nodes, with_fixups}
use Rattle.dt_model.specs.Names.{Name, IsLabel, IsPropertyName}
use Rattle.dt_model.specs.Named.{NodeReference, Named, node_count, list_of}
use Rattle.dt_model.specs.NamedOf.{IsNamed}
use Rattle.dt_model.specs.Tree.{Property, Forest, no_nodes, branch, Reading}
use Rattle.dt_model.specs.Valid.{AreProperties, AreNodes, IsWithinLimits, IsNoDeeper}
use Rattle.dt_names.specs.declared.fault.FaultKind.{FaultKind}
use Rattle.dt_names.specs.declared.fault.FaultKind.TheVariants.{NoMemory, Limit}
use Rattle.dt_flat.specs.Arena.{Arena, Slot, IsRooted, named_children, child_of, depth_of, with_child, reading}
use Rattle.dt_flat.specs.Planted.{planted}
use Rattle.dt_flat.proofs.AfterChild.{child-with_child}
use Rattle.dt_flat.proofs.Distinctness.{all-append}
use Rattle.dt_flat.proofs.PlantedNodes.{rows, length-rows, planted_rows}
use Rattle.dt_marks.specs.Refusals.{AreWithin, WhyNotPlanted, WhyNoFixups}
use Rattle.dt_marks.specs.Waiting.{with_texts, all_texts, with_outside}
use Rattle.dt_marks.proofs.Copies.{children-with_properties, no_fewer}
use Rattle.dt_marks.proofs.Counting.{as_many, shallow_all, shallow_rows, count_followed, deep_followed}
use Rattle.dt_marks.proofs.FirstCome.{listed_fixups, fixups_differ, labelled_texts}
use Rattle.dt_marks.proofs.LastChildren.{read_rows}
use Rattle.dt_marks.proofs.Outside.{texts_are, are_listable}
use Rattle.dt_marks.proofs.OwnNames.{fixups_named, local_fixups_named}
use Rattle.dt_marks.proofs.PlainCells.{are_properties, are_nodes_mirror, distinct_mirror, are_nodes_unless}
use Rattle.dt_marks.proofs.Refused.{within_front}
use Rattle.dt_marks.proofs.Setting.{label_is_name}

-- ---- the nodes

abbrev pub outside_node : Named NodeReference → Forest
outside_node t = unless_empty (codes "__fixups__") (fixups (outside_cells t)) no_nodes no_nodes

abbrev pub inside_node : Named NodeReference → Forest
inside_node t = unless_empty (codes "__local_fixups__") (local_properties t.content) (mirror t.children) no_nodes

table_is : (t : Named NodeReference) → with_texts [] (all_texts (list_of t)) ≡ fixups (outside_cells t)
table_is t = ap (with_texts []) (texts_are t) ∙ listed_fixups (outside_cells t)

pub outside_is : (slots : List Slot) (t : Named NodeReference) → with_outside slots (list_of t) ≡ planted slots 0 (outside_node t)
outside_is slots t = ap (λ (xs : List Property). planted slots 0 (unless_empty (codes "__fixups__") xs no_nodes no_nodes)) (table_is t)

names_from : (xs : List Property) → AllByRecursion (λ (x : Property). IsLabel x.name) xs → AllByRecursion (λ (x : Property). IsPropertyName x.name) xs
names_from [] h = tt
names_from (x ∷ xs) h = (label_is_name x.name h.0, names_from xs h.1)

fixups_are : (t : Named NodeReference) → IsNamed t → AreProperties (fixups (outside_cells t))
fixups_are t h = record {
  named = names_from (fixups (outside_cells t)) (subst (AllByRecursion (λ (x : Property). IsLabel x.name)) (table_is t) (labelled_texts (all_texts (list_of t)) [] (are_listable t h) tt));
  distinct = fixups_differ (outside_cells t);
}

inside_nodes : (t : Named NodeReference) → IsNamed t → AreNodes (inside_node t)
inside_nodes t h =
    let n = 1 + node_count t.children in
    are_nodes_unless (codes "__local_fixups__") (local_properties t.content) (mirror t.children) no_nodes local_fixups_named (are_properties n t.content h.root) (are_nodes_mirror n 1 t.children h.nodes)
    (distinct_mirror t.children h.siblings) tt

all_nodes : (t : Named NodeReference) → IsNamed t → AreNodes (fixup_nodes t)
all_nodes t h = are_nodes_unless (codes "__fixups__") (fixups (outside_cells t)) no_nodes (inside_node t) fixups_named (fixups_are t h) tt tt (inside_nodes t h)

one_and_others : (slots : List Slot) (name : Name) (xs : List Property) (others : Forest)
    → planted slots 0 (unless_empty name xs no_nodes others) ≡ planted (planted slots 0 (unless_empty name xs no_nodes no_nodes)) 0 others
one_and_others slots name [] no_nodes = refl
one_and_others slots name [] (branch x ps children siblings) = refl
one_and_others slots name (y ∷ ys) others = refl

both_nodes : (slots : List Slot) (t : Named NodeReference) → planted (planted slots 0 (outside_node t)) 0 (inside_node t) ≡ planted slots 0 (fixup_nodes t)
both_nodes slots t = sym (one_and_others slots (codes "__fixups__") (fixups (outside_cells t)) (inside_node t))

-- ---- how it is read

pub read_both : (old : Arena) (t : Named NodeReference) → IsNamed t → 0 < length old.slots
    → reading (record old { slots = planted (planted old.slots 0 (outside_node t)) 0 (inside_node t) }) ≡ with_fixups t (reading old)
read_both old t h rooted =
    ap (λ (slots : List Slot). reading (record old { slots = slots })) (both_nodes old.slots t ∙ planted_rows (fixup_nodes t) old.slots 0 rooted (all_nodes t h))
    ∙ read_rows old (depth_of old.slots 0 + 1) (fixup_nodes t) rooted

-- ---- the second name stays free

pub still_absent : (slots : List Slot) (xs : List Property) → 0 < length slots → child_of (named_children slots 0) (codes "__fixups__") ≡ None
    → child_of (named_children slots 0) (codes "__local_fixups__") ≡ None
    → child_of (named_children (planted slots 0 (unless_empty (codes "__fixups__") xs no_nodes no_nodes)) 0) (codes "__local_fixups__") ≡ None
still_absent slots [] rooted none absent = absent
still_absent slots (x ∷ xs) rooted none absent =
    ap (λ cs. child_of cs (codes "__local_fixups__")) (children-with_properties (with_child slots 0 (codes "__fixups__")) (length slots) (x ∷ xs) 0)
    ∙ child-with_child slots 0 (codes "__fixups__") 0 (codes "__local_fixups__") rooted none
    ∙ absent

-- ---- limits

pub within_both : (old : Arena) (t : Named NodeReference) → IsNamed t → IsRooted old.slots → IsWithinLimits (with_fixups t (reading old))
    → AreWithin (planted (planted old.slots 0 (outside_node t)) 0 (inside_node t))
within_both old t h rooted within =
    let f = fixup_nodes t in
    let slots = old.slots in
    let d = depth_of slots 0 + 1 in
    let made = rows (length slots) 0 d f in
    let whole : slots ++ made ≡ planted (planted slots 0 (outside_node t)) 0 (inside_node t) = sym (both_nodes slots t ∙ planted_rows f slots 0 rooted.some (all_nodes t h)) in
    let one : 1 ≡ d = omega (arith, rooted.top) in
    let deep : IsNoDeeper 64 d f = subst (λ (k : ℕ). IsNoDeeper 64 k f) one (deep_followed 1 (reading old).children f within.depth) in
    subst AreWithin whole (record {
      few = omega (arith, within.count, count_followed (reading old).children f, as_many slots rooted, length-append slots made, length-rows (length slots) 0 d f);
      shallow = all-append (λ (n : Slot). n.depth ≤ 64) slots made (shallow_all slots rooted) (shallow_rows (length slots) 0 d f deep);
    })

pub within_one : (slots : List Slot) (t : Named NodeReference) → IsNamed t → 0 < length slots → AreWithin (planted (planted slots 0 (outside_node t)) 0 (inside_node t)) → AreWithin (planted slots 0 (outside_node t))
within_one slots t h rooted within =
    let middle = planted slots 0 (outside_node t) in
    let there : 0 < length middle = omega (arith, no_fewer (outside_node t) slots 0) in
    within_front middle _ (subst AreWithin (planted_rows (inside_node t) middle 0 there (inside_nodes t h)) within)

pub why_no_fixups : (kind : FaultKind) (slots : List Slot) (t : Reading) → (IsWithinLimits t → AreWithin slots) → WhyNotPlanted kind slots → WhyNoFixups kind t
why_no_fixups NoMemory slots t within why = tt
why_no_fixups Limit slots t within why = λ h. why (within h)
why_no_fixups _ slots t within why = absurd why
