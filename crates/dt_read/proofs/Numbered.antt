-- A walk that looks for a number, step by step.
use Rattle.std.proofs.Common.{◌≡◌, ℕ, Bool, true, false, List, [], ◌∷◌, ◌++◌, Some, codes, sym, ap, subst, ◌∙◌}
use Rattle.std.specs.Prelude.{if◌then◌else◌}
use Rattle.dt_model.specs.Applied.{is_cell, node_numbered}
use Rattle.dt_model.specs.Names.{Name}
use Rattle.dt_model.specs.Tree.{Placed, value_of, value_in, nodes_of}
use Rattle.dt_model.specs.Valid.{IsValid}
use Rattle.dt_model.proofs.Listed.{listed_value}
use Rattle.dt_trees.specs.Placed.{PlacedTree, reading_of, path_at, IsNode, HasPlacesApart}
use Rattle.dt_read.specs.Walked.{Step, opens}
use Rattle.dt_trees.proofs.NodePlaces.{path_is, at_node}
use Rattle.dt_read.proofs.Opened.{AreOpened}
use Rattle.dt_read.proofs.Openings.{next_opened}

-- what is left finds what the whole walk finds
pub record Finds (t : PlacedTree) (n : ℕ) (steps : List Step) : Type 0 where
  pub before : List Placed
  pub nodes : List Placed
  pub opened : AreOpened t before nodes steps
  pub same : node_numbered nodes n ≡ node_numbered (nodes_of (reading_of t)) n

-- a node that is opened is a node
pub opens_node : (t : PlacedTree) (n k : ℕ) (name : Name) (steps rest : List Step) → HasPlacesApart t → Finds t n steps → steps ≡ opens k name ∷ rest → IsNode t k
opens_node t n k name steps rest apart left e =
    let next = next_opened t left.before left.nodes k name rest (subst (AreOpened t left.before left.nodes) e left.opened) in
    at_node t apart next.first.path k next.at

-- what it is asked
abbrev pub has_number : PlacedTree → ℕ → ℕ → Bool
has_number t n k = is_cell n (value_in (reading_of t) (path_at t k) (codes "phandle"))

asked : (t : PlacedTree) (n k : ℕ) (first : Placed) (later : List Placed) → path_at t k ≡ first.path → value_in (reading_of t) first.path (codes "phandle") ≡ value_of first.properties (codes "phandle")
    → node_numbered (first ∷ later) n ≡ (if has_number t n k then Some (path_at t k) else node_numbered later n)
asked t n k first later is value =
    ap (λ v. if is_cell n v then Some first.path else node_numbered later n) (sym value)
    ∙ ap (λ p. if is_cell n (value_in (reading_of t) p (codes "phandle")) then Some p else node_numbered later n) (sym is)

-- the node has the number
pub found : (t : PlacedTree) (n k : ℕ) (name : Name) (steps rest : List Step) → IsValid (reading_of t) → HasPlacesApart t → Finds t n steps → steps ≡ opens k name ∷ rest → has_number t n k ≡ true
    → Some (path_at t k) ≡ node_numbered (nodes_of (reading_of t)) n
found t n k name steps rest valid apart left e has =
    let next = next_opened t left.before left.nodes k name rest (subst (AreOpened t left.before left.nodes) e left.opened) in
    ap (λ b. if b then Some (path_at t k) else node_numbered next.later n) (sym has)
    ∙ sym (asked t n k next.first next.later (path_is t apart next.first.path k next.at) (listed_value (reading_of t) next.first (codes "phandle") valid next.listed))
    ∙ ap (λ ns. node_numbered ns n) (sym next.are)
    ∙ left.same

-- it hasn't
pub passed : (t : PlacedTree) (n k : ℕ) (name : Name) (steps rest : List Step) → IsValid (reading_of t) → HasPlacesApart t → Finds t n steps → steps ≡ opens k name ∷ rest → has_number t n k ≡ false → Finds t n rest
passed t n k name steps rest valid apart left e has =
    let next = next_opened t left.before left.nodes k name rest (subst (AreOpened t left.before left.nodes) e left.opened) in
    record {
      before = left.before ++ next.first ∷ [];
      nodes = next.later;
      opened = next.left;
      same =
          ap (λ b. if b then Some (path_at t k) else node_numbered next.later n) (sym has)
          ∙ sym (asked t n k next.first next.later (path_is t apart next.first.path k next.at) (listed_value (reading_of t) next.first (codes "phandle") valid next.listed))
          ∙ ap (λ ns. node_numbered ns n) (sym next.are)
          ∙ left.same;
    }
