-- Names of nodes, and what they have.
use Rattle.std.proofs.Common.{◌≡◌, ◌≢◌, ◌≤◌, ℕ, true, length, [], ◌∷◌, Option, Some, None, refl, sym, ap, subst, ◌∙◌}
use Rattle.std.specs.Prelude.{is_some, option_and_then}
use Rattle.std.specs.List.{AllByRecursion}
use Rattle.dt_model.specs.Limits.{most_names}
use Rattle.dt_model.specs.Names.{Name, IsNodeName}
use Rattle.dt_model.specs.Path.{Path}
use Rattle.dt_model.specs.Tree.{Reading, Node, node_at, stands_in, value_of, value_in}
use Rattle.dt_model.specs.Valid.{IsValid, IsWithinLimits}
use Rattle.dt_model.proofs.Depths.{within_depth}
use Rattle.dt_model.proofs.Listed.{stands_listed}
use Rattle.dt_model.proofs.Preorder.{listed_named}
use Rattle.dt_trees.specs.Placed.{PlacedTree, reading_of, path_at, last_name, properties_at, properties_found, IsNode}
use Rattle.dt_trees.proofs.NodePlaces.{stands_place}

-- the names of a path that stands are names of nodes
pub stands_named : (t : Reading) (p : Path) → IsValid t → stands_in t p ≡ true → AllByRecursion IsNodeName p
stands_named t p valid h = let w = stands_listed t p h in subst (AllByRecursion IsNodeName) w.2 (listed_named t w.0 valid w.1)

last_named : (p : Path) → p ≢ [] → AllByRecursion IsNodeName p → IsNodeName (last_name p)
last_named [] some named = absurd (some refl)
last_named (x ∷ []) some named = named.0
last_named (x ∷ y ∷ p) some named = last_named (y ∷ p) (λ e. absurd cc) named.1

-- and so is that of each node but the root
pub node_named : (t : PlacedTree) (k : ℕ) → IsValid (reading_of t) → IsNode t k → path_at t k ≢ [] → IsNodeName (last_name (path_at t k))
node_named t k valid at below = last_named (path_at t k) below (stands_named (reading_of t) (path_at t k) valid (sym (stands_place t (path_at t k)) ∙ ap is_some at))

-- the value of one of a node's properties
pub value_under : (t : PlacedTree) (p : Path) (name : Name) → value_of (properties_at t p) name ≡ value_in (reading_of t) p name
value_under t p name = step (node_at (reading_of t) p)
  where
    step : (o : Option Node) → value_of (properties_found o) name ≡ option_and_then (λ n. value_of n.properties name) o
    step None = refl
    step (Some n) = refl

-- a path has 64 names at most
pub path_short : (t : PlacedTree) (k : ℕ) → IsWithinLimits (reading_of t) → IsNode t k → length (path_at t k) ≤ most_names
path_short t k within at = within_depth (reading_of t) (path_at t k) within (sym (stands_place t (path_at t k)) ∙ ap is_some at)
