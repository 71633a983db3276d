-- What a view of a tree answers.
use Rattle.std.specs.Prelude.{◌≡◌, ◌≢◌, ℕ, List, [], ◌∷◌, map, Option, Some, None, codes}
use Rattle.dt_model.specs.Meaning.{cell}
use Rattle.dt_model.specs.Path.{Path}
use Rattle.dt_model.specs.Tree.{Property, value_in}
use Rattle.dt_names.specs.Paths.{IsPathOf}
use Rattle.dt_names.specs.declared.fault.FaultKind.{FaultKind}
use Rattle.dt_names.specs.declared.fault.FaultKind.TheVariants.{BadName, NoNode}
use Rattle.dt_trees.specs.Placed.{PlacedTree, path_at, place_of, last_name, reading_of, child_names, first_place_of, names_behind, IsAt, IsNode}
use Rattle.dt_resolve_model.specs.Above.{front}
use Rattle.dt_trees.specs.declared.view.Prop.{Prop}

-- the node above one, none above the root
abbrev pub IsAbove : PlacedTree → ℕ → Option ℕ → Type 0
IsAbove t node None = path_at t node ≡ []
IsAbove t node (Some above) = IsNode t above × (path_at t above ≡ front (path_at t node)) × (path_at t node ≢ [])

-- the nodes above one, the innermost first
abbrev pub AreAbove : PlacedTree → ℕ → List ℕ → Type 0
AreAbove t node [] = path_at t node ≡ []
AreAbove t node (above ∷ more) = IsAbove t node (Some above) × AreAbove t above more

-- the first child of the node of a path
abbrev pub first_child_of : PlacedTree → Path → Option ℕ
first_child_of t path = first_place_of t path (child_names t path)

-- the sibling behind the node of a path, none behind the root
abbrev pub next_sibling_of : PlacedTree → Path → Option ℕ
next_sibling_of t [] = None
next_sibling_of t (x ∷ p) = first_place_of t (front (x ∷ p)) (names_behind (last_name (x ∷ p)) (child_names t (front (x ∷ p))))

-- the node has the number
abbrev pub HasNumber : PlacedTree → ℕ → ℕ → Type 0
HasNumber t k n = value_in (reading_of t) (path_at t k) (codes "phandle") ≡ Some (cell n)

-- ---- properties

abbrev pub prop_said : Prop → Property
prop_said p = record { name = p.name.now; value = p.value.now }

abbrev pub props_said : List Prop → List Property
props_said ps = map prop_said ps

-- ---- nodes by the texts of their paths

-- a text is that of the node's path
pub record IsFoundBy (t : PlacedTree) (text : List ℕ) (node : ℕ) : Type 0 where
  pub path : Path
  pub written : IsPathOf text path
  pub there : IsAt t path node

-- a text is no path's, or its path is no node's
abbrev pub WhyNotFound : FaultKind → PlacedTree → List ℕ → Type 0
WhyNotFound BadName t text = (path : Path) → ¬ IsPathOf text path
WhyNotFound NoNode t text = (path : Path) × IsPathOf text path × (place_of t path ≡ None)
WhyNotFound _ t text = ⊥
