use Rattle.std.proofs.Common.{◌≡◌, List, [], map, codes, None, sym, ap, ◌∙◌, subst}
use Rattle.std.proofs.lemmas.Result.{on_ok_weaker, IfErr-weaker, err_from_is_err_and}
use Rattle.dt_model.specs.Fixups.{with_fixups}
use Rattle.dt_model.specs.Named.{NodeReference, Named, Listed, list_of, tree_of}
use Rattle.dt_names.specs.declared.fault.Fault.{Fault}
use Rattle.dt_source_named_tree.specs.Said.{node_said}
use Rattle.dt_flat.specs.Arena.{Arena, Slot, named_children, child_of, reading}
use Rattle.dt_flat.specs.Planted.{planted}
use Rattle.dt_marks.specs.Mirrored.{with_inside}
use Rattle.dt_marks.specs.Paths.{AreAll}
use Rattle.dt_marks.specs.Refusals.{WhyNotPlanted, WhyNoFixups}
use Rattle.dt_marks.specs.Waiting.{with_texts, all_texts, with_outside, AreListable}
use Rattle.dt_marks.proofs.Labels.{are_all}
use Rattle.dt_marks.proofs.Outside.{are_listable}
use Rattle.dt_marks.proofs.ObjectNodes.{outside_node, inside_node, outside_is, read_both, still_absent, within_both, within_one, why_no_fixups}
use Rattle.dt_marks.proofs.overlays.add_fixups.Goals as goal

pub add_outside-requires-clause-all : goal.add_outside-requires-clause-all
add_outside-requires-clause-all c = subst AreAll (c.validity.ensures.preorder ∙ sym c.nodes.ensures) (are_all (tree_of c.args.named.now) c.validity.ensures.named)

pub add_outside-requires-clause-labels : goal.add_outside-requires-clause-labels
add_outside-requires-clause-labels c =
    subst (λ (ns : List (Listed NodeReference)). AreListable (all_texts ns)) (c.validity.ensures.preorder ∙ sym c.nodes.ensures) (are_listable (tree_of c.args.named.now) c.validity.ensures.named)

pub add_inside-requires : goal.add_inside-requires
add_inside-requires c =
    let slots = c.args.tree.now.slots in
    let said = map node_said c.nodes.result.now in
    record {
      absent = ap (λ (a : Arena). child_of (named_children a.slots 0) (codes "__local_fixups__")) c.in_ok-add_outside.ensures.tree
          ∙ still_absent slots (with_texts [] (all_texts said)) c.validity-2.ensures.rooted.some c.requires.fixups c.requires.locals;
    }

pub returns-in_err-add_outside-clause-refused : goal.returns-in_err-add_outside-clause-refused
returns-in_err-add_outside-clause-refused c =
    let t = tree_of c.args.named.now in
    let old = c.args.tree.now in
    let rooted = c.validity-2.ensures.rooted in
    let valid = c.validity.ensures.named in
    let listed = c.validity.ensures.preorder ∙ sym c.nodes.ensures in
    let made = ap (with_outside old.slots) (sym listed) ∙ outside_is old.slots t in
    let why = c.in_err-add_outside.ensures.refused in
    let e = err_from_is_err_and c.from_residual.result c.from_residual.ensures.1 in
    rw (e.1, e.2) (
      why_no_fixups _ (planted old.slots 0 (outside_node t)) (with_fixups t (reading old)) (λ within. within_one old.slots t valid rooted.some (within_both old t valid rooted within))
          (subst (WhyNotPlanted _) made why.0),
      why.1,
    )

-- the tree with the first of the two nodes
middle : (old new : Arena) (t : Named NodeReference) (said : List (Listed NodeReference)) → list_of t ≡ said → new ≡ record old { slots = with_outside old.slots said } → new ≡ record old { slots = planted old.slots 0 (outside_node t) }
middle old new t said listed is = is ∙ ap (λ (ns : List (Listed NodeReference)). record old { slots = with_outside old.slots ns }) (sym listed) ∙ ap (λ (slots : List Slot). record old { slots = slots }) (outside_is old.slots t)

pub returns-clause-added : goal.returns-clause-added
returns-clause-added c =
    let t = tree_of c.args.named.now in
    let old = c.args.tree.now in
    let first = middle old c.add_outside.new.tree t (map node_said c.nodes.result.now) (c.validity.ensures.preorder ∙ sym c.nodes.ensures) c.in_ok-add_outside.ensures.tree in
    on_ok_weaker c.add_inside.result
    (λ made. ap reading (made ∙ ap (λ (a : Arena). record a { slots = with_inside a.slots t }) first) ∙ read_both old t c.validity.ensures.named c.validity-2.ensures.rooted.some)
    c.add_inside.ensures.tree

pub returns-clause-refused : goal.returns-clause-refused
returns-clause-refused c =
    let t = tree_of c.args.named.now in
    let old = c.args.tree.now in
    let first = middle old c.add_outside.new.tree t (map node_said c.nodes.result.now) (c.validity.ensures.preorder ∙ sym c.nodes.ensures) c.in_ok-add_outside.ensures.tree in
    let final = with_inside c.add_outside.new.tree.slots t in
    let both = planted (planted old.slots 0 (outside_node t)) 0 (inside_node t) in
    let made : final ≡ both = ap (λ (a : Arena). with_inside a.slots t) first in
    let goal_tree = with_fixups t (reading old) in
    IfErr-weaker c.add_inside.result (λ (fault : Fault). WhyNotPlanted fault.kind final × (fault.at ≡ None)) (λ fault. WhyNoFixups fault.kind goal_tree × (fault.at ≡ None))
    (λ fault why. (
      why_no_fixups fault.kind both goal_tree (within_both old t c.validity.ensures.named c.validity-2.ensures.rooted) (subst (WhyNotPlanted fault.kind) made why.0),
      why.1,
    )) c.add_inside.ensures.refused
