-- A place is that of one path's node, by which the path is found.
use Rattle.std.proofs.Common.{◌≡◌, ℕ, Bool, true, false, cond, List, [], ◌∷◌, Option, Some, None, refl, sym, ap, ◌∙◌, true≢false, inl, inr}
use Rattle.std.proofs.lemmas.Bool.{eqb-true, eq-eqb}
use Rattle.dt_model.specs.Lists.{IsIn}
use Rattle.dt_model.specs.Path.{Path}
use Rattle.dt_model.specs.Tree.{Property, Placed, node_below, nodes_of, stands_in}
use Rattle.dt_model.proofs.Listed.{stands_listed}
use Rattle.dt_trees.specs.Placed.{Nodes, no_nodes, node, forest_of, PlacedTree, reading_of, place_below, place_of, is_place, path_among, path_at, IsAt, IsNode}
use Rattle.std.specs.Prelude.{is_some}
use Rattle.std.specs.Str.{bytes_eq}

-- a path stands exactly where it has a place
pub stands_below : (nodes : Nodes) (at : ℕ) (ps : List Property) (p : Path) → is_some (place_below at nodes p) ≡ is_some (node_below (record { properties = ps; children = forest_of nodes }) p)
stands_below nodes at ps [] = refl
stands_below no_nodes at ps (x ∷ p) = refl
stands_below (node place name properties children siblings) at ps (x ∷ p) =
    step (stands_below children place properties p) (stands_below siblings at ps (x ∷ p)) (bytes_eq x name) refl
  where
    step : is_some (place_below place children p) ≡ is_some (node_below (record { properties = properties; children = forest_of children }) p)
        → is_some (place_below at siblings (x ∷ p)) ≡ is_some (node_below (record { properties = ps; children = forest_of siblings }) (x ∷ p))
        → (b : Bool) → bytes_eq x name ≡ b
        → is_some (place_below at (node place name properties children siblings) (x ∷ p)) ≡ is_some (node_below (record { properties = ps; children = forest_of (node place name properties children siblings) }) (x ∷ p))
    step inside after true e = rw e inside
    step inside after false e = rw e after

pub stands_place : (t : PlacedTree) (p : Path) → is_some (place_of t p) ≡ stands_in (reading_of t) p
stands_place t p = stands_below t.children t.place t.properties p

place_passed : (o : Option ℕ) (k : ℕ) → is_place o k ≡ true → o ≡ Some k
place_passed None k e = absurd (true≢false (sym e))
place_passed (Some j) k e = ap (λ (n : ℕ). Some n) (eqb-true j k e)

place_passes : (o : Option ℕ) (k : ℕ) → o ≡ Some k → is_place o k ≡ true
place_passes o k e = ap (λ (p : Option ℕ). is_place p k) e ∙ eq-eqb k k refl

among : (t : PlacedTree) (ns : List Placed) (k : ℕ) (n : Placed) → IsIn n ns → place_of t n.path ≡ Some k → place_of t (path_among t ns k) ≡ Some k
among t [] k n i e = absurd i
among t (m ∷ ns) k n i e = step (λ j. among t ns k n j e) (is_place (place_of t m.path) k) refl
  where
    step : (IsIn n ns → place_of t (path_among t ns k) ≡ Some k) → (b : Bool) → is_place (place_of t m.path) k ≡ b → place_of t (cond b m.path (path_among t ns k)) ≡ Some k
    step more true is = place_passed (place_of t m.path) k is
    step more false is = elim i [
      | inl same ↦ absurd (true≢false (sym (place_passes (place_of t m.path) k (ap (λ (x : Placed). place_of t x.path) (sym same) ∙ e)) ∙ is))
      | inr j ↦ more j
    ]

-- the path of a path's place is the path
pub path_is : (t : PlacedTree) → ((p q : Path) (k : ℕ) → IsAt t p k → IsAt t q k → p ≡ q) → (p : Path) (k : ℕ) → IsAt t p k → path_at t k ≡ p
unfolding path_at
path_is t places p k at =
    let n = stands_listed (reading_of t) p (sym (stands_place t p) ∙ ap is_some at) in
    places (path_among t (nodes_of (reading_of t)) k) p k (among t (nodes_of (reading_of t)) k n.0 n.1 (ap (place_of t) n.2 ∙ at)) at

-- so it is its node's
pub at_node : (t : PlacedTree) → ((p q : Path) (k : ℕ) → IsAt t p k → IsAt t q k → p ≡ q) → (p : Path) (k : ℕ) → IsAt t p k → IsNode t k
at_node t places p k at = ap (place_of t) (path_is t places p k at) ∙ at
