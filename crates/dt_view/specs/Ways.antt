-- The names of a path, and the nodes on the way down it.
use Rattle.std.specs.Prelude.{ℕ, List, [], ◌∷◌, ◌++◌, codes}
use Rattle.std.specs.List.{AllByRecursion}
use Rattle.dt_model.specs.Path.{Path}
use Rattle.dt_trees.specs.Placed.{PlacedTree, last_name, path_at, IsNode}

-- each behind a slash, and nothing for the root
abbrev pub names_text : Path → List ℕ
names_text [] = []
names_text (x ∷ p) = codes "/" ++ (x ++ names_text p)

-- the same of nodes on a way
abbrev pub way_text : PlacedTree → List ℕ → List ℕ
way_text t [] = []
way_text t (k ∷ ks) = codes "/" ++ (last_name (path_at t k) ++ way_text t ks)

abbrev pub AreNodes : PlacedTree → List ℕ → Type 0
AreNodes t ks = AllByRecursion (IsNode t) ks
