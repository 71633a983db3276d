-- How deep a node is, and whether it has a child.
use Rattle.std.proofs.Common.{◌≡◌, ◌↔◌, ℕ, ◌+◌, ◌<◌, Bool, true, List, [], ◌∷◌, ◌++◌, length, Option, sym, ap, ◌∙◌, arith}
use Rattle.std.specs.Prelude.{IsTrue, nat_lt, is_some}
use Rattle.std.proofs.lemmas.Bool.{ltb-true, lt-ltb}
use Rattle.dt_model.specs.Limits.{most_names, most_nodes}
use Rattle.dt_model.specs.Names.{Name}
use Rattle.dt_model.specs.Path.{Path}
use Rattle.dt_model.specs.Tree.{nodes_of, stands_in}
use Rattle.dt_model.specs.Valid.{node_count}
use Rattle.dt_model.proofs.Preorder.{length-preorder}
use Rattle.dt_read.specs.Checked.{placed_of}
use Rattle.dt_trees.specs.Placed.{PlacedTree, path_at, place_of, reading_of}
use Rattle.dt_trees.proofs.NodePlaces.{stands_place}
use Rattle.dt_trees.specs.Views.{AreAbove}
use Rattle.dt_view.proofs.PathTexts.{one_shorter}
use Rattle.dt_edit.specs.Editable.{reading_in, path_in}

-- there are as many nodes above a node as its path has names
pub above_counts : (t : PlacedTree) (k : ℕ) (above : List ℕ) → AreAbove t k above → length above ≡ length (path_at t k)
above_counts t k [] a = sym (ap (λ (p : Path). length p) a)
above_counts t k (x ∷ above) a =
    let more = above_counts t x above a.1 in
    let one = one_shorter (path_at t k) (path_at t x) a.0.2 a.0.1 in
    omega arith

-- a child is there where its path stands
pub child_stands : (bytes : List ℕ) (node : ℕ) (name : Name) (child : Option ℕ) (found : Bool) → child ≡ place_of (placed_of bytes) (path_in bytes node ++ name ∷ []) → found ≡ is_some child
    → IsTrue found ↔ (stands_in (reading_in bytes) (path_in bytes node ++ name ∷ []) ≡ true)
child_stands bytes node name child found e f =
    let same : found ≡ stands_in (reading_in bytes) (path_in bytes node ++ name ∷ []) = f ∙ ap is_some e ∙ stands_place (placed_of bytes) (path_in bytes node ++ name ∷ []) in
    (λ h. sym same ∙ h, λ h. same ∙ h)

-- how many nodes there are
pub nodes_counted : (t : PlacedTree) → length (nodes_of (reading_of t)) ≡ 1 + node_count (reading_of t).children
nodes_counted t = omega (arith, length-preorder [] (reading_of t).children)

pub room_below : (bytes : List ℕ) (node depth : ℕ) → depth ≡ length (path_in bytes node) → 1 + node_count (reading_in bytes).children < most_nodes
    → IsTrue (nat_lt depth 64) ↔ ((length (path_in bytes node) < most_names) × (1 + node_count (reading_in bytes).children < most_nodes))
room_below bytes node depth d few = (λ h. let shallow = ltb-true depth 64 h in (omega arith, few), λ h. let shallow = h.0 in lt-ltb depth 64 (omega arith))
