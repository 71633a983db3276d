-- The fragments among the children of the root.
use Rattle.std.proofs.Common.{◌≡◌, ℕ, Bool, true, false, cond, not, List, [], ◌∷◌, ◌++◌, Option, Some, None, is_some, MatchOption, inl, inr, refl, sym, ap, subst, ◌∙◌, append_assoc}
use Rattle.std.specs.Prelude.{codes, ◌&&◌}
use Rattle.std.proofs.lemmas.List.{append-nil}
use Rattle.dt_model.specs.Lists.{IsIn}
use Rattle.dt_model.specs.Names.{Name}
use Rattle.dt_model.specs.Overlay.{content}
use Rattle.dt_model.specs.Path.{Path, is_bookkeeping_name}
use Rattle.dt_model.specs.Object.{is_fragment, fragment_names}
use Rattle.dt_model.specs.Tree.{Forest, no_nodes, root_of, sibling}
use Rattle.dt_trees.specs.Placed.{PlacedTree, reading_of, place_of, path_at, last_name, below_at, below_in, HasPlacesApart, IsAt, IsNode}
use Rattle.dt_trees.proofs.NodePlaces.{path_is, stands_place}
use Rattle.dt_trees.proofs.Walked.{below_last, node_before}
use Rattle.dt_overlay_laws.specs.Objects.{HasTarget}
use Rattle.dt_overlay_object.specs.Plans.{IsTargetOf, IsFragmentOf, AreFragmentsOf}
use Rattle.dt_overlay_object.specs.declared.kept.ObjectFragment.{ObjectFragment}

-- a child of the root with a child `__overlay__` is a fragment, unless it is a bookkeeping node
pub content_there : (t : PlacedTree) (node : ℕ) (name : Name) (o : Option ℕ) → is_bookkeeping_name name ≡ false → o ≡ place_of t (path_at t node ++ codes "__overlay__" ∷ [])
    → MatchOption o (is_fragment name (below_in t node) ≡ false) (λ content. (is_fragment name (below_in t node) ≡ true) × IsAt t (path_at t node ++ codes "__overlay__" ∷ []) content)
content_there t node name o other is = by o is
  where
    inside : Path
    inside = path_at t node ++ codes "__overlay__" ∷ []

    fragment : (o : Option ℕ) → o ≡ place_of t inside → is_fragment name (below_in t node) ≡ is_some o
    fragment o is =
        ap (λ (b : Bool). not b && is_some (sibling (below_in t node) (codes "__overlay__"))) other
        ∙ ap is_some (sym (below_last (path_at t node) (root_of (reading_of t)) (codes "__overlay__"))) ∙ sym (stands_place t inside) ∙ ap is_some (sym is)

    by : (o : Option ℕ) → o ≡ place_of t inside → MatchOption o (is_fragment name (below_in t node) ≡ false) (λ content. (is_fragment name (below_in t node) ≡ true) × IsAt t inside content)
    by None is = fragment None is
    by (Some content) is = (fragment (Some content) is, sym is)

-- ---- the children one after another

-- the fragments so far are kept, and those among the nodes that are left aren't yet
pub record Listing (t : PlacedTree) (kept : List ObjectFragment) (left : Forest) : Type 0 where
  pub done : List Name
  pub all : fragment_names (reading_of t).children ≡ done ++ fragment_names left
  pub listed : AreFragmentsOf t kept done

-- at first all children of the root are left
pub listing_begins : (t : PlacedTree) (kept : List ObjectFragment) (root : ℕ) → HasPlacesApart t → IsAt t [] root → kept ≡ [] → Listing t kept (below_in t root)
listing_begins t kept root apart at none = record {
  done = [];
  all = ap fragment_names (ap (below_at t) (sym (path_is t apart [] root at)));
  listed = subst (λ (xs : List ObjectFragment). AreFragmentsOf t xs []) (sym none) tt;
}

-- the next node is no fragment
pub listing_passes : (t : PlacedTree) (kept : List ObjectFragment) (left rest : Forest) (k : ℕ) → left ≡ node_before t k rest → is_fragment (last_name (path_at t k)) (below_in t k) ≡ false → Listing t kept left → Listing t kept rest
listing_passes t kept left rest k e plain l =
    let m = subst (Listing t kept) e l in
    record {
      done = m.done;
      all = m.all ∙ ap (λ (b : Bool). m.done ++ cond b (last_name (path_at t k) ∷ fragment_names rest) (fragment_names rest)) plain;
      listed = m.listed;
    }

kept_more : (t : PlacedTree) (xs : List ObjectFragment) (fs : List Name) (x : ObjectFragment) (f : Name) → AreFragmentsOf t xs fs → IsFragmentOf t x f → AreFragmentsOf t (xs ++ x ∷ []) (fs ++ f ∷ [])
kept_more t [] [] x f h k = (k, tt)
kept_more t [] (g ∷ fs) x f h k = absurd h
kept_more t (y ∷ xs) [] x f h k = absurd h
kept_more t (y ∷ xs) (g ∷ fs) x f h k = (h.0, kept_more t xs fs x f h.1 k)

-- a child of the root has its name for a path
pub child_path : (t : PlacedTree) (root k : ℕ) (name : Name) → HasPlacesApart t → IsAt t [] root → path_at t k ≡ path_at t root ++ name ∷ [] → path_at t k ≡ last_name (path_at t k) ∷ []
child_path t root k name apart at path =
    let own : path_at t k ≡ name ∷ [] = path ∙ ap (λ (p : Path). p ++ name ∷ []) (path_is t apart [] root at) in
    own ∙ ap (λ (x : Name). x ∷ []) (sym (ap last_name own))

-- a fragment that is kept by its node, the child `__overlay__` of that and its target
fragment_kept : (t : PlacedTree) (k : ℕ) (x : ObjectFragment) → IsNode t k → path_at t k ≡ last_name (path_at t k) ∷ [] → x.node ≡ k → IsAt t (path_at t k ++ codes "__overlay__" ∷ []) x.content
    → IsTargetOf (reading_of t) (last_name (path_at t k)) x.target → IsFragmentOf t x (last_name (path_at t k))
fragment_kept t k x node path is under target = record {
  node = ap (place_of t) (sym path) ∙ node ∙ ap (λ (n : ℕ). Some n) (sym is);
  content = ap (place_of t) (ap (λ (p : Path). p ++ codes "__overlay__" ∷ []) (sym path)) ∙ under;
  target = target;
}

-- the next node is a fragment, which is kept
pub listing_keeps : (t : PlacedTree) (kept more : List ObjectFragment) (left rest : Forest) (k : ℕ) (x : ObjectFragment) → left ≡ node_before t k rest → IsNode t k → path_at t k ≡ last_name (path_at t k) ∷ []
    → is_fragment (last_name (path_at t k)) (below_in t k) ≡ true → more ≡ kept ++ x ∷ [] → x.node ≡ k → IsAt t (path_at t k ++ codes "__overlay__" ∷ []) x.content
    → IsTargetOf (reading_of t) (last_name (path_at t k)) x.target → Listing t kept left → Listing t more rest
listing_keeps t kept more left rest k x e node path brings put is under target l =
    let m = subst (Listing t kept) e l in
    let name = last_name (path_at t k) in
    record {
      done = m.done ++ name ∷ [];
      all = m.all ∙ ap (λ (b : Bool). m.done ++ cond b (name ∷ fragment_names rest) (fragment_names rest)) brings ∙ sym (append_assoc m.done (name ∷ []) (fragment_names rest));
      listed = subst (λ (xs : List ObjectFragment). AreFragmentsOf t xs (m.done ++ name ∷ [])) (sym put) (kept_more t kept m.done x name m.listed (fragment_kept t k x node path is under target));
    }

-- a fragment among those that are left is one of all
listing_has : (t : PlacedTree) (kept : List ObjectFragment) (left rest : Forest) (k : ℕ) → left ≡ node_before t k rest → is_fragment (last_name (path_at t k)) (below_in t k) ≡ true → Listing t kept left
    → IsIn (last_name (path_at t k)) (fragment_names (reading_of t).children)
listing_has t kept left rest k e brings l =
    let m = subst (Listing t kept) e l in
    let name = last_name (path_at t k) in
    let all : fragment_names (reading_of t).children ≡ m.done ++ name ∷ fragment_names rest = m.all ∙ ap (λ (b : Bool). m.done ++ cond b (name ∷ fragment_names rest) (fragment_names rest)) brings in
    subst (IsIn name) (sym all) (behind_done m.done name (fragment_names rest))
  where
    behind_done : (done : List Name) (f : Name) (fs : List Name) → IsIn f (done ++ f ∷ fs)
    behind_done [] f fs = inl refl
    behind_done (g ∷ done) f fs = inr (behind_done done f fs)

-- where none is left, all are kept
pub listing_ends : (t : PlacedTree) (kept : List ObjectFragment) (left : Forest) → left ≡ no_nodes → Listing t kept left → AreFragmentsOf t kept (fragment_names (reading_of t).children)
listing_ends t kept left e l =
    let m = subst (Listing t kept) e l in
    subst (AreFragmentsOf t kept) (sym (m.all ∙ append-nil m.done)) m.listed

-- a fragment that isn't kept is one that has no target
pub not_listed : (t : PlacedTree) (kept : List ObjectFragment) (left rest : Forest) (k : ℕ) → left ≡ node_before t k rest → is_fragment (last_name (path_at t k)) (below_in t k) ≡ true
    → ¬ HasTarget (reading_of t) (last_name (path_at t k)) → Listing t kept left → (f : Name) × IsIn f (fragment_names (reading_of t).children) × ¬ HasTarget (reading_of t) f
not_listed t kept left rest k e brings none l = (last_name (path_at t k), listing_has t kept left rest k e brings l, none)
