use Rattle.std.proofs.Common.{◌≡◌, ◌∙◌, ◌∷◌, [], ℕ, List, Option, inr, length, refl, sym, ap, subst, arith}
use Rattle.dt_model.specs.Path.{Path}
use Rattle.dt_model.specs.Tree.{Forest}
use Rattle.dt_model.specs.Valid.{names}
use Rattle.dt_overlay_object.specs.declared.kept.ObjectFragment.{ObjectFragment}
use Rattle.dt_trees.specs.Placed.{PlacedTree, place_of, path_at, last_name, below_at}
use Rattle.dt_trees.specs.Views.{first_child_of}
use Rattle.dt_trees.proofs.NodePlaces.{path_is}
use Rattle.dt_trees.proofs.Walked.{IsWalked, IsVisited, walk_begins, walk_ends, visit, left_counted, last_of}
use Rattle.dt_overlay_read.proofs.FragmentsListed.{Listing, listing_begins, listing_passes, listing_keeps, listing_ends, not_listed}
use Rattle.dt_overlay_read.proofs.fragments.list_fragments.Goals.{in-Some-content_of+in-Some-target_of+in_ok-push, in_default-content_of}
use Rattle.dt_overlay_read.proofs.fragments.list_fragments.Goals as goal

-- a child of the root has its name for a path
named_path : (t : PlacedTree) (k : ℕ) (left : Forest) (v : IsVisited t [] k left) → path_at t k ≡ last_name (path_at t k) ∷ []
named_path t k left v = v.path ∙ ap (λ x. x ∷ []) (sym (ap last_name v.path ∙ last_of [] v.name))

pub loop-next-init : goal.loop-next-init
loop-next-init g c =
    let t = g.V.TreeView.tree c.args.object.now in
    let root = path_is t c.validity.ensures.places [] c.root.result c.root.ensures.at in
    record {
      forest = below_at t [];
      walked = walk_begins t [] c.first_child-next.result (c.first_child-next.ensures.is ∙ ap (first_child_of t) root);
      listing = subst (λ (p : Path). Listing t c.args.out.now.items (below_at t p)) root (listing_begins t c.args.out.now.items c.root.result c.validity.ensures.places c.root.ensures.at c.requires);
    }

pub content_of-requires : goal.content_of-requires
content_of-requires g c =
    let t = g.V.TreeView.tree c.args.object.now in
    let w = c.loop-next.invariant in
    (visit t [] c.in-Some.node w.forest c.validity.ensures.valid c.validity.ensures.places (subst (λ (n : Option ℕ). IsWalked t [] n w.forest) c.in-Some.is w.walked)).there

pub target_of-requires : goal.target_of-requires
target_of-requires g c =
    let t = g.V.TreeView.tree c.args.object.now in
    let w = c.loop-next.invariant in
    (visit t [] c.in-Some.node w.forest c.validity.ensures.valid c.validity.ensures.places (subst (λ (n : Option ℕ). IsWalked t [] n w.forest) c.in-Some.is w.walked)).there

pub returns-in_default-target_of-clause-refused : goal.returns-in_default-target_of-clause-refused
returns-in_default-target_of-clause-refused g c =
    let t = g.V.TreeView.tree c.args.object.now in
    let w = c.loop-next.invariant in
    let k = c.in-Some.node in
    let v = visit t [] k w.forest c.validity.ensures.valid c.validity.ensures.places (subst (λ (n : Option ℕ). IsWalked t [] n w.forest) c.in-Some.is w.walked) in
    let path = named_path t k w.forest v in
    let none = c.in_default-target_of.ensures (last_name (path_at t k)) (ap (place_of t) (sym path) ∙ v.there) in
    (c.of.ensures.at, inr (c.of.ensures.kind, not_listed t c.loop-next.out.items w.forest v.rest k v.split c.in-Some-content_of.ensures.0 none w.listing))

pub next_sibling-next-requires : goal.next_sibling-next-requires
next_sibling-next-requires g c =
    let t = g.V.TreeView.tree c.args.object.now in
    let w = c.loop-next.invariant in
    (visit t [] c.in-Some.node w.forest c.validity.ensures.valid c.validity.ensures.places (subst (λ (n : Option ℕ). IsWalked t [] n w.forest) c.in-Some.is w.walked)).there

pub loop-next-smaller : goal.loop-next-smaller
loop-next-smaller g c =
    let t = g.V.TreeView.tree c.args.object.now in
    let w = c.loop-next.invariant in
    let valid = c.validity.ensures.valid in
    let apart = c.validity.ensures.places in
    let v = visit t [] c.in-Some.node w.forest valid apart (subst (λ (n : Option ℕ). IsWalked t [] n w.forest) c.in-Some.is w.walked) in
    let before = left_counted t [] c.loop-next.next w.forest valid apart w.walked in
    let behind = left_counted t [] c.next_sibling-next.result v.rest valid apart (v.on c.next_sibling-next.result c.next_sibling-next.ensures.is) in
    let one = ap (λ (f : Forest). length (names f)) v.split in
    omega (arith, before, behind, one)

pub loop-next-preserved : goal.loop-next-preserved
loop-next-preserved g c =
    let t = g.V.TreeView.tree c.args.object.now in
    let w = c.loop-next.invariant in
    let k = c.in-Some.node in
    let v = visit t [] k w.forest c.validity.ensures.valid c.validity.ensures.places (subst (λ (n : Option ℕ). IsWalked t [] n w.forest) c.in-Some.is w.walked) in
    let path = named_path t k w.forest v in
    record {
      forest = v.rest;
      walked = v.on c.next_sibling-next.result c.next_sibling-next.ensures.is;
      listing = elim c.match-content_of.branch as (λ b. Listing t c.match-content_of.out.items v.rest) [
        | in-Some-content_of+in-Some-target_of+in_ok-push m ↦
            listing_keeps t c.loop-next.out.items c.match-content_of.out.items w.forest v.rest k (record { node = k; content = m.in-Some-content_of.content; target = m.in-Some-target_of.target })
            v.split v.there path m.in-Some-content_of.ensures.0 (ap (λ o. o.items) m.out-is ∙ m.in_ok-push.ensures.items) refl m.in-Some-content_of.ensures.1
            (m.in-Some-target_of.ensures (last_name (path_at t k)) (ap (place_of t) (sym path) ∙ v.there)) w.listing
        | in_default-content_of m ↦
            subst (λ (xs : List ObjectFragment). Listing t xs v.rest) (sym (ap (λ o. o.items) m.out-is))
            (listing_passes t c.loop-next.out.items w.forest v.rest k v.split m.in_default-content_of.ensures w.listing)
      ];
    }

pub returns-clause-listed : goal.returns-clause-listed
returns-clause-listed g c =
    let t = g.V.TreeView.tree c.args.object.now in
    let w = c.loop-next.invariant in
    listing_ends t c.loop-next.out.items w.forest
    (walk_ends t [] w.forest c.validity.ensures.valid (subst (λ (n : Option ℕ). IsWalked t [] n w.forest) c.in_default.is w.walked)) w.listing
