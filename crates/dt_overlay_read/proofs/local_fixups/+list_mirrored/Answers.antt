use Rattle.std.proofs.Common.{◌≡◌, ◌∙◌, ◌∷◌, [], ◌+◌, ℕ, Option, length, inr, sym, ap, subst, arith}
use Rattle.std.proofs.lemmas.List.{length-append}
use Rattle.std.proofs.lemmas.Result.{err_from_is_err_and}
use Rattle.dt_model.specs.Lists.{IsIn}
use Rattle.dt_model.specs.Path.{Path}
use Rattle.dt_model.specs.Tree.{Forest, Property}
use Rattle.dt_model.specs.Valid.{names}
use Rattle.dt_overlay_base.proofs.LooksNames.{path_short}
use Rattle.dt_overlay_laws.specs.Objects.{IsLocalFixup}
use Rattle.dt_overlay_read.specs.LocalFixups.{HasBadMirror, ListsMirror, ListsMirrors}
use Rattle.dt_overlay_read.proofs.LocalFixupsLists.{fault_for, left-step}
use Rattle.dt_overlay_read.proofs.LocalFixupsNodes.{missing, bad_property, child_counterparts, child_mirror, child_name, counterpart_path, mirrors-none, mirrors-more, mirror_whole}
use Rattle.dt_trees.specs.Placed.{path_at, below_at, properties_at, reading_of}
use Rattle.dt_trees.proofs.Walked.{IsWalked, walk_begins, walk_ends, visit, left_counted}
use Rattle.dt_overlay_read.proofs.local_fixups.+list_mirrored.Goals as goal

pub returns-in_err-list_properties-clause-refused : goal.returns-in_err-list_properties-clause-refused
returns-in_err-list_properties-clause-refused g t c =
    let e = err_from_is_err_and c.from_residual.result c.from_residual.ensures.1 in
    let o = g.V.TreeView.tree c.args.object.now in
    rw (e.1, e.2) (fault_for ((x : Property) × IsIn x (properties_at o (path_at o c.args.mirror)) × ¬ IsLocalFixup (reading_of o) (path_at o c.args.node) x) (HasBadMirror (reading_of o)) c.in_err-list_properties.field-0.0
    (λ w. bad_property o c.args.mirror c.args.node c.requires.counterparts w.0 w.1 w.2) c.in_err-list_properties.ensures.refused)

pub loop-next-init : goal.loop-next-init
loop-next-init g t c =
    let o = g.V.TreeView.tree c.args.object.now in
    record {
      forest = below_at o (path_at o c.args.mirror);
      walked = walk_begins o (path_at o c.args.mirror) c.first_child-next.result c.first_child-next.ensures.is;
      left = λ numbers brought new others. others;
    }

pub returns-in_default-child-clause-refused : goal.returns-in_default-child-clause-refused
returns-in_default-child-clause-refused g t c =
    let o = g.V.TreeView.tree c.args.object.now in
    let w = c.loop-next.invariant in
    let v = visit o (path_at o c.args.mirror) c.in-Some.child w.forest c.validity.ensures.valid c.validity.ensures.places (subst (λ (n : Option ℕ). IsWalked o (path_at o c.args.mirror) n w.forest) c.in-Some.is w.walked) in
    (c.of.ensures.at, inr (c.of.ensures.kind, missing o c.validity.ensures.places c.args.mirror c.args.node c.in-Some.child c.requires.counterparts v.name v.path c.name.result.now v.there c.name.ensures c.in_default-child.ensures.is))

pub name-requires : goal.name-requires
name-requires g t c =
    let o = g.V.TreeView.tree c.args.object.now in
    let w = c.loop-next.invariant in
    (visit o (path_at o c.args.mirror) c.in-Some.child w.forest c.validity.ensures.valid c.validity.ensures.places (subst (λ (n : Option ℕ). IsWalked o (path_at o c.args.mirror) n w.forest) c.in-Some.is w.walked)).there

pub list_mirrored-requires : goal.list_mirrored-requires
list_mirrored-requires g t c κs within =
    let o = g.V.TreeView.tree c.args.object.now in
    let p = path_at o c.args.mirror in
    let w = c.loop-next.invariant in
    let v = visit o p c.in-Some.child w.forest c.validity.ensures.valid c.validity.ensures.places (subst (λ (n : Option ℕ). IsWalked o p n w.forest) c.in-Some.is w.walked) in
    let longer : length (path_at o c.in-Some.child) ≡ length p + 1 = ap length v.path ∙ length-append p (v.name ∷ []) in
    let short = path_short o c.in-Some.child c.validity.ensures.within v.there in
    let at = child_counterparts o c.validity.ensures.places c.args.mirror c.args.node c.in-Some.child c.requires.counterparts v.name v.path c.name.result.now c.in-Some-child.counterpart v.there
    c.in-Some-child.ensures.node c.name.ensures c.in-Some-child.ensures.is in
    (omega (arith, c.decreases, longer, short), (within, (at, c.requires.brought)))

pub next_sibling-next-requires : goal.next_sibling-next-requires
next_sibling-next-requires g t c =
    let o = g.V.TreeView.tree c.args.object.now in
    let w = c.loop-next.invariant in
    (visit o (path_at o c.args.mirror) c.in-Some.child w.forest c.validity.ensures.valid c.validity.ensures.places (subst (λ (n : Option ℕ). IsWalked o (path_at o c.args.mirror) n w.forest) c.in-Some.is w.walked)).there

pub loop-next-smaller : goal.loop-next-smaller
loop-next-smaller g t c =
    let o = g.V.TreeView.tree c.args.object.now in
    let p = path_at o c.args.mirror in
    let w = c.loop-next.invariant in
    let valid = c.validity.ensures.valid in
    let apart = c.validity.ensures.places in
    let v = visit o p c.in-Some.child w.forest valid apart (subst (λ (n : Option ℕ). IsWalked o p n w.forest) c.in-Some.is w.walked) in
    let before = left_counted o p c.loop-next.next w.forest valid apart w.walked in
    let behind = left_counted o p c.next_sibling-next.result v.rest valid apart (v.on c.next_sibling-next.result c.next_sibling-next.ensures.is) in
    let one = ap (λ (f : Forest). length (names f)) v.split in
    omega (arith, before, behind, one)

pub loop-next-preserved : goal.loop-next-preserved
loop-next-preserved g t c =
    let o = g.V.TreeView.tree c.args.object.now in
    let p = path_at o c.args.mirror in
    let w = c.loop-next.invariant in
    let k = c.in-Some.child in
    let at = c.requires.counterparts in
    let apart = c.validity.ensures.places in
    let now = c.loop-next.out.items in
    let next = c.list_mirrored.new.out.items in
    let v = visit o p k w.forest c.validity.ensures.valid apart (subst (λ (n : Option ℕ). IsWalked o p n w.forest) c.in-Some.is w.walked) in
    let path = counterpart_path o apart c.args.mirror c.args.node k at v.name v.path c.name.result.now c.in-Some-child.counterpart c.name.ensures c.in-Some-child.ensures.is in
    record {
      forest = v.rest;
      walked = v.on c.next_sibling-next.result c.next_sibling-next.ensures.is;
      left = λ numbers brought.
          left-step (ListsMirrors o numbers (path_at o c.args.node)) (below_at o p) w.forest v.rest c.list_properties.new.out.items now next
          (λ new others. subst (λ (f : Forest). ListsMirrors o numbers (path_at o c.args.node) f now new) (sym v.split)
          (mirrors-more o numbers (path_at o c.args.node) k v.name v.rest now next new (child_mirror o apart c.args.mirror c.args.node k at v.name v.path) (child_name o apart c.args.mirror c.args.node k at v.name v.path)
          (subst (λ (q : Path). ListsMirror o numbers q now next) path (c.in_ok-list_mirrored.ensures.listed numbers brought)) others))
          (w.left numbers brought);
    }

pub returns-clause-listed : goal.returns-clause-listed
returns-clause-listed g t c numbers brought =
    let o = g.V.TreeView.tree c.args.object.now in
    let p = path_at o c.args.mirror in
    let w = c.loop-next.invariant in
    let none = walk_ends o p w.forest c.validity.ensures.valid (subst (λ (n : Option ℕ). IsWalked o p n w.forest) c.in_default.is w.walked) in
    mirror_whole o numbers c.args.mirror c.args.node c.args.out.now.items c.list_properties.new.out.items c.loop-next.out.items c.requires.counterparts (c.in_ok-list_properties.ensures.listed numbers brought)
    (w.left numbers brought c.loop-next.out.items
    (subst (λ (f : Forest). ListsMirrors o numbers (path_at o c.args.node) f c.loop-next.out.items c.loop-next.out.items) (sym none) (mirrors-none o numbers (path_at o c.args.node) c.loop-next.out.items)))
