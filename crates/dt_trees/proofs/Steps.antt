-- Steps from a node to those around it.
use Rattle.std.proofs.Common.{◌≡◌, ℕ, Bool, true, false, cond, List, [], ◌∷◌, ◌++◌, map, Option, Some, None, refl, sym, ap, subst, ◌∙◌, append_assoc}
use Rattle.std.specs.Prelude.{IfSome, MatchOption}
use Rattle.std.specs.Str.{bytes_eq}
use Rattle.std.proofs.lemmas.List.{append-nil}
use Rattle.dt_model.specs.Names.{Name}
use Rattle.dt_model.specs.Path.{Path}
use Rattle.dt_trees.specs.Placed.{Nodes, no_nodes, node, PlacedTree, place_below, place_of, path_at, last_name, child_names, first_place_of, names_behind, IsAt, IsNode, HasPlacesApart}
use Rattle.dt_trees.proofs.NodePlaces.{path_is, at_node}
use Rattle.dt_resolve_model.specs.Above.{front}
use Rattle.dt_trees.specs.Views.{next_sibling_of}

abbrev pub first : List ℕ → Option ℕ
first [] = None
first (k ∷ ks) = Some k

-- what an iterator over them gives
pub first_given : (children left : List ℕ) (r : Option ℕ) → MatchOption r ((children ≡ []) × (left ≡ [])) (λ k. children ≡ k ∷ left) → r ≡ first children
first_given children left None e = ap first (sym e.0)
first_given children left (Some k) e = ap first (sym e)

-- the first child, of the places of all children
pub first_child_is : (t : PlacedTree) (p : Path) (children : List ℕ) (names : List Name) → map (λ k. Some k) children ≡ map (λ x. place_of t (p ++ x ∷ [])) names → first children ≡ first_place_of t p names
first_child_is t p [] [] e = refl
first_child_is t p [] (x ∷ names) e = absurd cc
first_child_is t p (k ∷ ks) [] e = absurd cc
first_child_is t p (k ∷ ks) (x ∷ names) e = cc

-- a path is the one above it with its last name
pub ends_so : (x : Name) (p : Path) → front (x ∷ p) ++ last_name (x ∷ p) ∷ [] ≡ x ∷ p
ends_so x [] = refl
ends_so x (y ∷ p) = ap (λ (q : Path). x ∷ q) (ends_so y p)

-- the sibling behind a node
pub sibling_is : (t : PlacedTree) (p : Path) (k : ℕ) (r : Option ℕ) → IsAt t p k → (IsAt t [] k → r ≡ None)
    → ((path : Path) (name : Name) → IsAt t (path ++ name ∷ []) k → r ≡ first_place_of t path (names_behind name (child_names t path))) → r ≡ next_sibling_of t p
sibling_is t [] k r at root below = root at
sibling_is t (x ∷ p) k r at root below = below (front (x ∷ p)) (last_name (x ∷ p)) (ap (place_of t) (ends_so x p) ∙ at)

-- what stands at a path is a node
pub place_is_node : (t : PlacedTree) → HasPlacesApart t → (p : Path) (r : Option ℕ) → r ≡ place_of t p → IfSome r (IsNode t)
place_is_node t places p None e = tt
place_is_node t places p (Some k) e = at_node t places p k (sym e)

pub first_is_node : (t : PlacedTree) → HasPlacesApart t → (p : Path) (names : List Name) (r : Option ℕ) → r ≡ first_place_of t p names → IfSome r (IsNode t)
first_is_node t places p [] r e = subst (λ (o : Option ℕ). IfSome o (IsNode t)) (sym e) tt
first_is_node t places p (x ∷ names) r e = place_is_node t places (p ++ x ∷ []) r e

pub sibling_is_node : (t : PlacedTree) → HasPlacesApart t → (p : Path) (r : Option ℕ) → r ≡ next_sibling_of t p → IfSome r (IsNode t)
sibling_is_node t places [] r e = subst (λ (o : Option ℕ). IfSome o (IsNode t)) (sym e) tt
sibling_is_node t places (x ∷ p) r e = first_is_node t places (front (x ∷ p)) (names_behind (last_name (x ∷ p)) (child_names t (front (x ∷ p)))) r e

-- ---- down a path

-- some names lead to the node, and the others are left
pub record IsOnTheWay (t : PlacedTree) (path : Path) (node : ℕ) (left : Path) : Type 0 where
  pub done : Path
  pub here : IsAt t done node
  pub whole : path ≡ done ++ left

none_below : (nodes : Nodes) (at : ℕ) (p q : Path) → place_below at nodes p ≡ None → place_below at nodes (p ++ q) ≡ None
none_below nodes at [] q e = absurd cc
none_below no_nodes at (x ∷ p) q e = refl
none_below (node place name properties children siblings) at (x ∷ p) q e =
    by_name (bytes_eq x name) e (none_below children place p q) (none_below siblings at (x ∷ p) q)
  where
    by_name : (b : Bool) → cond b (place_below place children p) (place_below at siblings (x ∷ p)) ≡ None → (place_below place children p ≡ None → place_below place children (p ++ q) ≡ None)
        → (place_below at siblings (x ∷ p) ≡ None → place_below at siblings (x ∷ (p ++ q)) ≡ None) → cond b (place_below place children (p ++ q)) (place_below at siblings (x ∷ (p ++ q))) ≡ None
    by_name true e within after = within e
    by_name false e within after = after e

-- the child of the node that is called as the next name
child_here : (t : PlacedTree) (path : Path) (k : ℕ) (x : Name) (left : Path) (r : Option ℕ) → HasPlacesApart t → (w : IsOnTheWay t path k (x ∷ left)) → r ≡ place_of t (path_at t k ++ x ∷ []) → r ≡ place_of t (w.done ++ x ∷ [])
child_here t path k x left r places w e = e ∙ ap (λ (p : Path). place_of t (p ++ x ∷ [])) (path_is t places w.done k w.here)

one_name : (t : PlacedTree) (path : Path) (k : ℕ) (x : Name) (left : Path) (w : IsOnTheWay t path k (x ∷ left)) → path ≡ (w.done ++ x ∷ []) ++ left
one_name t path k x left w = w.whole ∙ sym (append_assoc w.done (x ∷ []) left)

pub on_the_way : (t : PlacedTree) (path : Path) (k : ℕ) (left : Path) → HasPlacesApart t → IsOnTheWay t path k left → IsNode t k
on_the_way t path k left places w = at_node t places w.done k w.here

pub one_step : (t : PlacedTree) (path : Path) (k : ℕ) (x : Name) (left : Path) (child : ℕ) → HasPlacesApart t → IsOnTheWay t path k (x ∷ left) → Some child ≡ place_of t (path_at t k ++ x ∷ []) → IsOnTheWay t path child left
one_step t path k x left child places w e = record {
  done = w.done ++ x ∷ [];
  here = sym (child_here t path k x left (Some child) places w e);
  whole = one_name t path k x left w;
}

pub no_step : (t : PlacedTree) (path : Path) (k : ℕ) (x : Name) (left : Path) → HasPlacesApart t → IsOnTheWay t path k (x ∷ left) → None ≡ place_of t (path_at t k ++ x ∷ []) → None ≡ place_of t path
no_step t path k x left places w e =
    sym (ap (place_of t) (one_name t path k x left w) ∙ none_below t.children t.place (w.done ++ x ∷ []) left (sym (child_here t path k x left None places w e)))

pub arrived : (t : PlacedTree) (path : Path) (k : ℕ) → IsOnTheWay t path k [] → Some k ≡ place_of t path
arrived t path k w = sym (ap (place_of t) (w.whole ∙ append-nil w.done) ∙ w.here)
