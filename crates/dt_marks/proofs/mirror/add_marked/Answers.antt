use Rattle.std.proofs.Common.{◌≡◌, ◌+◌, List, ◌∷◌, [], length, map, None, sym, ap, ◌∙◌, subst}
use Rattle.std.specs.List.{AllByRecursion}
use Rattle.std.proofs.lemmas.Result.{on_ok_weaker, IfErr-weaker}
use Rattle.dt_model.specs.Fixups.{local_properties}
use Rattle.dt_model.specs.Named.{NodeReference, Content, node_count, tree_of}
use Rattle.dt_names.specs.declared.fault.Fault.{Fault}
use Rattle.dt_source_named_tree.specs.Said.{node_said}
use Rattle.dt_flat.specs.Arena.{Slot}
use Rattle.dt_marks.specs.Mirrored.{marked_at, mirrored, with_mirror_root, with_inside, IsNoPhandle}
use Rattle.dt_marks.specs.Paths.{MayFollow}
use Rattle.dt_marks.specs.Refusals.{WhyNotPlanted}
use Rattle.dt_marks.proofs.Labels.{are_all}
use Rattle.dt_marks.proofs.PlainCells.{plain_local}
use Rattle.dt_marks.proofs.Inside.{inside_unwanted, parts, root_wanted, made, made_inside}
use Rattle.dt_marks.proofs.mirror.add_marked.Goals as goal

pub mark-requires-clause-follow : goal.mark-requires-clause-follow
mark-requires-clause-follow c =
    let t = tree_of c.args.named.now in
    let p = parts t c.nodes.result.now c.in-Some.others.now c.in-Some.root.now (c.validity.ensures.preorder ∙ sym c.nodes.ensures) c.in-Some.ensures.cases.0 in
    subst (MayFollow 1) p.rest (are_all t c.validity.ensures.named).1

pub returns-then-not-is_wanted-clause-tree : goal.returns-then-not-is_wanted-clause-tree
returns-then-not-is_wanted-clause-tree c =
    let t = tree_of c.args.named.now in
    let root = c.in-Some.root.now in
    let others = c.in-Some.others.now in
    let p = parts t c.nodes.result.now others root (c.validity.ensures.preorder ∙ sym c.nodes.ensures) c.in-Some.ensures.cases.0 in
    let none = sym (root_wanted t root others c.mark.new.needed p c.mark.ensures) ∙ sym c.if-not-is_wanted.ensures in
    ap (λ (slots : List Slot). record c.args.tree.now { slots = slots }) (inside_unwanted c.args.tree.now.slots t none)

pub add_mirror-requires-clause-plain : goal.add_mirror-requires-clause-plain
add_mirror-requires-clause-plain c =
    let t = tree_of c.args.named.now in
    let p = parts t c.nodes.result.now c.in-Some.others.now c.in-Some.root.now (c.validity.ensures.preorder ∙ sym c.nodes.ensures) c.in-Some.ensures.cases.0 in
    subst (λ (x : Content NodeReference). AllByRecursion IsNoPhandle (local_properties x)) p.content (plain_local (1 + node_count t.children) t.content c.validity.ensures.named.root)

pub add_mirror-requires-clause-may : goal.add_mirror-requires-clause-may
add_mirror-requires-clause-may c =
    let t = tree_of c.args.named.now in
    let root = c.in-Some.root.now in
    let others = c.in-Some.others.now in
    let p = parts t c.nodes.result.now others root (c.validity.ensures.preorder ∙ sym c.nodes.ensures) c.in-Some.ensures.cases.0 in
    (made c.args.tree.now.slots t root others c.mark.new.needed c.validity.ensures.named p c.mark.ensures).may

pub returns-clause-tree : goal.returns-clause-tree
returns-clause-tree c =
    let t = tree_of c.args.named.now in
    let root = c.in-Some.root.now in
    let others = c.in-Some.others.now in
    let p = parts t c.nodes.result.now others root (c.validity.ensures.preorder ∙ sym c.nodes.ensures) c.in-Some.ensures.cases.0 in
    let whole = made_inside c.args.tree.now.slots t root others c.mark.new.needed c.validity.ensures.named p c.mark.ensures (sym c.if-not-is_wanted.ensures) in
    on_ok_weaker c.add_mirror.result
    (λ made. made ∙ ap (λ (slots : List Slot). record c.args.tree.now { slots = slots }) whole)
    c.add_mirror.ensures.tree

pub returns-clause-refused : goal.returns-clause-refused
returns-clause-refused c =
    let t = tree_of c.args.named.now in
    let slots = c.args.tree.now.slots in
    let root = c.in-Some.root.now in
    let others = c.in-Some.others.now in
    let marks = c.mark.new.needed in
    let p = parts t c.nodes.result.now others root (c.validity.ensures.preorder ∙ sym c.nodes.ensures) c.in-Some.ensures.cases.0 in
    let whole = made_inside slots t root others marks c.validity.ensures.named p c.mark.ensures (sym c.if-not-is_wanted.ensures) in
    let final = mirrored (marked_at marks) 1 (with_mirror_root slots (node_said root).content) (length slots ∷ []) (map node_said others) in
    IfErr-weaker c.add_mirror.result (λ (fault : Fault). WhyNotPlanted fault.kind final × (fault.at ≡ None)) (λ fault. WhyNotPlanted fault.kind (with_inside slots t) × (fault.at ≡ None))
    (λ fault why. (subst (WhyNotPlanted fault.kind) whole why.0, why.1)) c.add_mirror.ensures.refused
