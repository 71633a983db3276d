-- What full tables find.
use Rattle.std.proofs.Common.{◌≡◌, ℕ, ◌<◌, ◌^◌, Option, Some, None, List, sym, ap, subst, ◌∙◌}
use Rattle.std.specs.Prelude.{is_some}
use Rattle.dt_model.specs.Tree.{nodes_of}
use Rattle.dt_model.proofs.Listed.{stands_listed}
use Rattle.dt_trees.specs.Placed.{PlacedTree, reading_of, path_at, place_of, IsNode}
use Rattle.dt_trees.proofs.LookedUp.{IsLookedUp}
use Rattle.dt_trees.proofs.NodePlaces.{stands_place}
use Rattle.dt_view.specs.Tables.{at_number, AreParents, ArePhandles}
use Rattle.dt_trees.specs.Views.{IsAbove}
use Rattle.dt_view.specs.declared.tables.Row.{Row}

pub above_of : (t : PlacedTree) (entries : List (ℕ × Row)) (k : ℕ) → AreParents t (nodes_of (reading_of t)) entries → IsNode t k → (row : Row) × (at_number entries k ≡ Some row) × IsAbove t k row.above
above_of t entries k parents is =
    let n = stands_listed (reading_of t) (path_at t k) (sym (stands_place t (path_at t k)) ∙ ap is_some is) in
    parents n.0 k n.1 (ap (place_of t) n.2 ∙ is)

pub above_is : (t : PlacedTree) (entries : List (ℕ × Row)) (k : ℕ) (row : Row) → AreParents t (nodes_of (reading_of t)) entries → IsNode t k → Some row ≡ at_number entries k → IsAbove t k row.above
above_is t entries k row parents is e =
    let found = above_of t entries k parents is in
    let both : Some found.0 ≡ Some row = sym found.1 ∙ sym e in
    subst (λ (r : Row). IsAbove t k r.above) (let same : found.0 ≡ row = cc in same) found.2

pub above_is_there : (t : PlacedTree) (entries : List (ℕ × Row)) (k : ℕ) → AreParents t (nodes_of (reading_of t)) entries → IsNode t k → None ≡ at_number entries k → ⊥
above_is_there t entries k parents is e = let found = above_of t entries k parents is in let both : None ≡ Some found.0 = e ∙ found.1 in cc

-- full tables look up so
pub in_tables : (t : PlacedTree) (entries : List (ℕ × ℕ)) (n : ℕ) (r : Option ℕ) → n < 2 ^ 32 → ArePhandles t (nodes_of (reading_of t)) entries → r ≡ at_number entries n → IsLookedUp t n r
in_tables t entries n r low are e = record {
  has = λ k is. are.has n k (sym e ∙ is);
  found = λ k is own. (
      let x = stands_listed (reading_of t) (path_at t k) (sym (stands_place t (path_at t k)) ∙ ap is_some is) in
      ap is_some e ∙ are.found x.0 k n x.1 (ap (place_of t) x.2 ∙ is) low own);
}
