-- The places that a walk opens are those of the nodes.
use Rattle.std.proofs.Common.{◌≡◌, ◌≢◌, ℕ, List, ◌∷◌, map, Some, sym, ap, subst, ◌∙◌, inl, inr}
use Rattle.std.specs.Prelude.{is_some}
use Rattle.dt_model.specs.Lists.{IsIn}
use Rattle.dt_model.specs.Tree.{Placed, nodes_of}
use Rattle.dt_model.specs.Valid.{IsValid}
use Rattle.dt_model.proofs.Listed.{stands_listed}
use Rattle.dt_model.proofs.Tests.{in_map, in_map_from}
use Rattle.dt_trees.specs.Placed.{PlacedTree, reading_of, path_at, place_of, IsNode, HasPlacesApart}
use Rattle.dt_read.specs.Walked.{steps_of}
use Rattle.dt_trees.proofs.NodePlaces.{at_node, stands_place}
use Rattle.dt_read.proofs.Opened.{opened}
use Rattle.dt_read.proofs.Openings.{all_opened}

pub opened_is_node : (t : PlacedTree) (k : ℕ) → IsValid (reading_of t) → HasPlacesApart t → IsIn k (opened (steps_of t)) → IsNode t k
opened_is_node t k valid places i =
    let all = all_opened t valid in
    let some : IsIn (Some k) (map (λ (n : Placed). place_of t n.path) (nodes_of (reading_of t))) = subst (IsIn (Some k)) (sym all.places) (in_map (λ (j : ℕ). Some j) (opened (steps_of t)) k i) in
    let n = in_map_from (λ (n : Placed). place_of t n.path) (nodes_of (reading_of t)) (Some k) some in
    at_node t places n.0.path k (sym n.2)

pub node_is_opened : (t : PlacedTree) (k : ℕ) → IsValid (reading_of t) → IsNode t k → IsIn k (opened (steps_of t))
node_is_opened t k valid is =
    let all = all_opened t valid in
    let n = stands_listed (reading_of t) (path_at t k) (sym (stands_place t (path_at t k)) ∙ ap is_some is) in
    let some : IsIn (place_of t n.0.path) (map (λ (j : ℕ). Some j) (opened (steps_of t))) = subst (IsIn (place_of t n.0.path)) all.places (in_map (λ (m : Placed). place_of t m.path) (nodes_of (reading_of t)) n.0 n.1) in
    let j = in_map_from (λ (j : ℕ). Some j) (opened (steps_of t)) (place_of t n.0.path) some in
    let same : Some k ≡ Some j.0 = sym is ∙ sym (ap (place_of t) n.2) ∙ j.2 in
    let number : k ≡ j.0 = cc in
    subst (λ (m : ℕ). IsIn m (opened (steps_of t))) (sym number) j.1

-- another place was opened
pub opened_later : (k here : ℕ) (rest : List ℕ) → here ≢ k → IsIn k (here ∷ rest) → IsIn k rest
opened_later k here rest other (inl same) = absurd (other (sym same))
opened_later k here rest other (inr i) = i
