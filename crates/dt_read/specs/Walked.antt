-- A tree as the steps of a walk through it.
use Rattle.std.specs.Prelude.{◌≡◌, ℕ, List, [], ◌∷◌, ◌++◌, map, Some}
use Rattle.dt_model.specs.Names.{Name}
use Rattle.dt_model.specs.Path.{Path}
use Rattle.dt_model.specs.Tree.{Property, node_at}
use Rattle.dt_trees.specs.Placed.{Nodes, no_nodes, node, forest_of, PlacedTree, reading_of}

-- a node begins, which has this place; a property of the node that is open; the node that is open ends
pub data Step : Type 0 where
  opens : (place : ℕ) (name : Name) → Step
  holds : (p : Property) → Step
  closes : Step

-- siblings: of each its properties, then its children
abbrev pub steps_of_nodes : Nodes → List Step
steps_of_nodes no_nodes = []
steps_of_nodes (node place name properties children siblings) =
    opens place name ∷ (map holds properties ++ (steps_of_nodes children ++ closes ∷ steps_of_nodes siblings))

-- the whole tree, the root first, which has no name
abbrev pub steps_of : PlacedTree → List Step
steps_of t = opens t.place [] ∷ (map holds t.properties ++ (steps_of_nodes t.children ++ closes ∷ []))

-- the properties that come first
abbrev pub leading : List Step → List Property
leading [] = []
leading (opens place name ∷ steps) = []
leading (holds p ∷ steps) = p ∷ leading steps
leading (closes ∷ steps) = []

-- the steps behind those
abbrev pub past_leading : List Step → List Step
past_leading [] = []
past_leading (opens place name ∷ steps) = opens place name ∷ steps
past_leading (holds p ∷ steps) = past_leading steps
past_leading (closes ∷ steps) = closes ∷ steps

-- the steps of a walk through the nodes alone
abbrev pub without_properties : List Step → List Step
without_properties [] = []
without_properties (opens place name ∷ steps) = opens place name ∷ without_properties steps
without_properties (holds p ∷ steps) = without_properties steps
without_properties (closes ∷ steps) = closes ∷ without_properties steps

-- the steps go through what the path's node has, up to its end, and on behind it
pub record WalkIn (t : PlacedTree) (path : Path) (steps : List Step) : Type 0 where
  pub properties : List Property
  pub children : Nodes
  pub behind : List Step
  pub there : node_at (reading_of t) path ≡ Some (record { properties = properties; children = forest_of children })
  pub whole : steps ≡ map holds properties ++ (steps_of_nodes children ++ closes ∷ behind)
