-- A child of the root, and its properties.
use Rattle.std.proofs.Common.{◌≡◌, ℕ, [], ◌∷◌, ◌++◌, Option, Some, None, refl, sym, ap, ◌∙◌}
use Rattle.dt_model.specs.Names.{Name}
use Rattle.dt_model.specs.Object.{properties_of}
use Rattle.dt_model.specs.Path.{Path}
use Rattle.dt_model.specs.Tree.{Node, node_at}
use Rattle.dt_trees.specs.Placed.{PlacedTree, reading_of, place_of, path_at, properties_at, properties_found, HasPlacesApart, IsAt}
use Rattle.dt_trees.proofs.NodePlaces.{path_is}

-- the child of the root that has a name
pub root_child : (t : PlacedTree) → HasPlacesApart t → (root : ℕ) (name x : Name) (o : Option ℕ) → IsAt t [] root → name ≡ x → o ≡ place_of t (path_at t root ++ name ∷ []) → place_of t (x ∷ []) ≡ o
root_child t apart root name x o at is e = sym (e ∙ λ i. place_of t (path_is t apart [] root at i ++ is i ∷ []))

pub found_properties : (o : Option Node) → properties_of o ≡ properties_found o
found_properties None = refl
found_properties (Some n) = refl

-- the properties of the node of a path
pub listed_at : (t : PlacedTree) → HasPlacesApart t → (p : Path) (k : ℕ) → IsAt t p k → properties_of (node_at (reading_of t) p) ≡ properties_at t (path_at t k)
listed_at t apart p k at = found_properties (node_at (reading_of t) p) ∙ ap (properties_at t) (sym (path_is t apart p k at))
