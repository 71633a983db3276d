-- The numbers that an application gives to the nodes that an object brings.
use Rattle.std.specs.Prelude.{◌≡◌, ℕ, ◌≤◌, ◌<◌, Bool, true, false, ◌&&◌, List, [], ◌∷◌, ◌++◌, map, Option, Some, None, is_some, if◌then◌else◌, nat_eq, codes}
use Rattle.std.specs.List.{list_any, filter}
use Rattle.std.specs.Int.{w32, from_be_bytes}
use Rattle.dt_model.specs.Names.{Name}
use Rattle.dt_model.specs.Path.{Path, path_eq, below}
use Rattle.dt_model.specs.Overlay.{content}
use Rattle.dt_model.specs.Object.{fragment_names}
use Rattle.dt_model.specs.Tree.{Reading, Placed, value_of, nodes_of}
use Rattle.dt_model.specs.Valid.{phandle_values, phandles}

-- the numbers of all nodes of a tree, its bookkeeping nodes among them
abbrev pub numbers_of : Reading → List ℕ
numbers_of t = map (from_be_bytes w32) (phandle_values t.properties ++ phandles t.children)

-- one of these fragments brings the node
abbrev pub is_brought : List Name → Path → Bool
is_brought fragments p = list_any (λ f. is_some (below (content f) p)) fragments

-- whether a fragment brings the node, and it has a phandle
abbrev pub needs_number : List Name → Placed → Bool
needs_number fragments n = is_brought fragments n.path && is_some (value_of n.properties (codes "phandle"))

-- the nodes of an object that get a new number, in preorder
abbrev pub new_paths : Reading → List Path
new_paths t = map (λ (n : Placed). n.path) (filter (needs_number (fragment_names t.children)) (nodes_of t))

-- the least number from 1 that is not taken
pub record IsLeastFree (taken : List ℕ) (n : ℕ) : Type 0 where
  pub low : 1 ≤ n
  pub free : list_any (nat_eq n) taken ≡ false
  pub least : (k : ℕ) → 1 ≤ k → k < n → list_any (nat_eq k) taken ≡ true

-- each path in order with the least number that is not taken and was not given before
abbrev pub AreNumbers : List ℕ → List Path → List (Path × ℕ) → Type 0
AreNumbers taken [] [] = Unit {0}
AreNumbers taken [] (x ∷ numbers) = ⊥
AreNumbers taken (p ∷ paths) [] = ⊥
AreNumbers taken (p ∷ paths) ((q, n) ∷ numbers) = (p ≡ q) × IsLeastFree taken n × AreNumbers (n ∷ taken) paths numbers

-- the number of a path
abbrev pub number_in : List (Path × ℕ) → Path → Option ℕ
number_in [] p = None
number_in ((q, n) ∷ numbers) p = if path_eq q p then Some n else number_in numbers p

-- ---- the numbers of a source's tree

-- the nodes of a tree, in preorder
abbrev pub paths_of : Reading → List Path
paths_of t = map (λ (n : Placed). n.path) (nodes_of t)
