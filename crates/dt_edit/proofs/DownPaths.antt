-- The names on the way down to a node.
use Rattle.std.proofs.Common.{◌≡◌, ◌≢◌, ℕ, ◌<◌, List, [], ◌∷◌, ◌++◌, map, length, Option, Some, None, is_some, option_and_then, false, refl, sym, ap, subst, ◌∙◌, append_assoc, arith}
use Rattle.std.specs.List.{AllByRecursion}
use Rattle.std.proofs.lemmas.List.{length-append}
use Rattle.dt_model.specs.Limits.{most_names}
use Rattle.dt_model.specs.Names.{Name, IsNodeName}
use Rattle.dt_model.specs.Path.{Path}
use Rattle.dt_model.specs.Tree.{Node, node_at, value_in, value_of}
use Rattle.dt_model.specs.Valid.{IsValid, IsWithinLimits}
use Rattle.dt_overlay_base.proofs.LooksNames.{stands_named, path_short}
use Rattle.dt_trees.specs.Placed.{PlacedTree, last_name, path_at, place_of, reading_of, IsNode}
use Rattle.dt_trees.proofs.NodePlaces.{stands_place}
use Rattle.dt_resolve_model.specs.Above.{front}
use Rattle.dt_trees.proofs.Steps.{ends_so}

abbrev pub names_down : PlacedTree → List ℕ → Path
names_down t way = map (λ k. last_name (path_at t k)) way

-- the last name goes over to those that are behind
pub one_up : (t : PlacedTree) (here next : ℕ) (way : List ℕ) → path_at t next ≡ front (path_at t here) → path_at t here ≢ [] → path_at t next ++ names_down t (here ∷ way) ≡ path_at t here ++ names_down t way
one_up t here next way is some = ap (λ (p : Path). p ++ last_name (path_at t here) ∷ names_down t way) is ∙ whole (path_at t here) some
  where
    whole : (p : Path) → p ≢ [] → front p ++ last_name p ∷ names_down t way ≡ p ++ names_down t way
    whole [] some = absurd (some refl)
    whole (x ∷ p) some = sym (append_assoc (front (x ∷ p)) (last_name (x ∷ p) ∷ []) (names_down t way)) ∙ ap (λ (q : Path). q ++ names_down t way) (ends_so x p)

-- what is left of a path behind some of its names
pub record IsLeft (t : PlacedTree) (node : ℕ) (way : List ℕ) (path : Path) : Type 0 where
  pub nodes : AllByRecursion (IsNode t) way
  pub whole : path ++ names_down t way ≡ path_at t node

pub one_down : (t : PlacedTree) (node here : ℕ) (way rest : List ℕ) (path : Path) → IsLeft t node way path → way ≡ here ∷ rest → IsLeft t node rest (path ++ last_name (path_at t here) ∷ [])
one_down t node here way rest path l e =
    let h = subst (λ (w : List ℕ). IsLeft t node w path) e l in
    record { nodes = h.nodes.1; whole = append_assoc path (last_name (path_at t here) ∷ []) (names_down t rest) ∙ h.whole }

pub room_left : (t : PlacedTree) (node here : ℕ) (way rest : List ℕ) (path : Path) → IsWithinLimits (reading_of t) → IsNode t node → IsLeft t node way path → way ≡ here ∷ rest → length path < most_names
room_left t node here way rest path within at l e =
    let h = subst (λ (w : List ℕ). IsLeft t node w path) e l in
    let long = ap (λ (p : Path). length p) h.whole in
    omega (arith, long, length-append path (names_down t (here ∷ rest)), path_short t node within at)

-- each name on the way is a node's
pub named_left : (t : PlacedTree) (node here : ℕ) (way rest : List ℕ) (path : Path) → IsValid (reading_of t) → IsNode t node → IsLeft t node way path → way ≡ here ∷ rest → IsNodeName (last_name (path_at t here))
named_left t node here way rest path valid at l e =
    let h = subst (λ (w : List ℕ). IsLeft t node w path) e l in
    behind path (subst (AllByRecursion IsNodeName) (sym h.whole) (stands_named (reading_of t) (path_at t node) valid (sym (stands_place t (path_at t node)) ∙ ap is_some at)))
  where
    behind : (p : Path) → AllByRecursion IsNodeName (p ++ last_name (path_at t here) ∷ names_down t rest) → IsNodeName (last_name (path_at t here))
    behind [] all = all.0
    behind (x ∷ p) all = behind p all.1

-- where no node is, no value is
pub no_value : (t : PlacedTree) (path : Path) (name : Name) → place_of t path ≡ None → value_in (reading_of t) path name ≡ None
no_value t path name none = step (node_at (reading_of t) path) (sym (stands_place t path) ∙ ap is_some none)
  where
    step : (o : Option Node) → is_some o ≡ false → option_and_then (λ (n : Node). value_of n.properties name) o ≡ None
    step None e = refl
    step (Some n) e = absurd cc
