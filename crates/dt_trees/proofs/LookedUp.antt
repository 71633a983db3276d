-- What is found by a number is the first node that has it.
use Rattle.std.proofs.Common.{◌≡◌, ℕ, true, true≢false, Option, Some, None, codes, refl, sym, ap, ◌∙◌}
use Rattle.std.specs.Prelude.{is_some, option_map, IfSome}
use Rattle.dt_model.specs.Applied.{node_numbered}
use Rattle.dt_model.specs.Meaning.{cell}
use Rattle.dt_model.specs.Path.{Path}
use Rattle.dt_model.specs.Tree.{nodes_of, value_in}
use Rattle.dt_model.specs.Valid.{IsValid}
use Rattle.dt_model.proofs.Finding.{node_of_number, number_of_node}
use Rattle.dt_model.proofs.Listed.{value_stands}
use Rattle.dt_trees.specs.Placed.{PlacedTree, reading_of, path_at, place_of, HasPlacesApart, IsAt, IsNode}
use Rattle.dt_trees.specs.Views.{HasNumber}
use Rattle.dt_trees.proofs.NodePlaces.{path_is, at_node, stands_place}

some_place : (t : PlacedTree) (p : Path) → is_some (place_of t p) ≡ true → (k : ℕ) × IsAt t p k
some_place t p some = by (place_of t p) refl
  where
    by : (o : Option ℕ) → place_of t p ≡ o → (k : ℕ) × IsAt t p k
    by None e = absurd (true≢false (sym some ∙ ap is_some e))
    by (Some k) e = (k, e)

-- what a number is looked up as: a node that has it, and one where a node has it
pub record IsLookedUp (t : PlacedTree) (n : ℕ) (r : Option ℕ) : Type 0 where
  pub has : (k : ℕ) → r ≡ Some k → IsNode t k × HasNumber t k n
  pub found : (k : ℕ) → IsNode t k → HasNumber t k n → is_some r ≡ true

none_numbered : (t : PlacedTree) (n : ℕ) → IsValid (reading_of t) → HasPlacesApart t → IsLookedUp t n None → (o : Option Path) → node_numbered (nodes_of (reading_of t)) n ≡ o → None ≡ o
none_numbered t n valid places looked None e = refl
none_numbered t n valid places looked (Some p) e =
    let has : value_in (reading_of t) p (codes "phandle") ≡ Some (cell n) = number_of_node (reading_of t) p n valid e in
    let k = some_place t p (stands_place t p ∙ value_stands (reading_of t) p (codes "phandle") (cell n) has) in
    let own : HasNumber t k.0 n = ap (λ q. value_in (reading_of t) q (codes "phandle")) (path_is t places p k.0 k.1) ∙ has in
    absurd (true≢false (sym (looked.found k.0 (at_node t places p k.0 k.1) own)))

-- so the first node with the number is found
pub looked_up : (t : PlacedTree) (n : ℕ) (r : Option ℕ) → IsValid (reading_of t) → HasPlacesApart t → IsLookedUp t n r → option_map (path_at t) r ≡ node_numbered (nodes_of (reading_of t)) n
looked_up t n (Some k) valid places looked = sym (node_of_number (reading_of t) (path_at t k) n valid (looked.has k refl).1)
looked_up t n None valid places looked = none_numbered t n valid places looked (node_numbered (nodes_of (reading_of t)) n) refl

pub looked_up_node : (t : PlacedTree) (n : ℕ) (r : Option ℕ) → IsLookedUp t n r → IfSome r (IsNode t)
looked_up_node t n (Some k) looked = (looked.has k refl).0
looked_up_node t n None looked = tt
