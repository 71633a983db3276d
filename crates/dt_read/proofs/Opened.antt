-- What a walk through a tree tells of a node.
use Rattle.std.specs.Prelude.{◌≡◌, ◌<◌, ◌-◌, ◌==◌, ℕ, suc, List, [], ◌∷◌, ◌++◌, drop, map, Option, Some, None, if◌then◌else◌}
use Rattle.dt_model.specs.Limits.{most_bodies}
use Rattle.dt_model.specs.Tree.{Placed, nodes_of}
use Rattle.dt_trees.specs.Placed.{PlacedTree, reading_of, place_of}
use Rattle.dt_read.specs.Walked.{Step, opens, holds, closes}

abbrev pub innermost : List ℕ → Option ℕ
innermost [] = None
innermost (k ∷ ks) = Some k

-- the node that is open where a node begins, where these are open, the innermost first
abbrev pub parent_told : ℕ → List ℕ → List Step → Option ℕ
parent_told node open_nodes [] = None
parent_told node open_nodes (opens place name ∷ steps) = if place == node then innermost open_nodes else parent_told node (place ∷ open_nodes) steps
parent_told node open_nodes (holds p ∷ steps) = parent_told node open_nodes steps
parent_told node open_nodes (closes ∷ steps) = parent_told node (drop 1 open_nodes) steps

-- no more than 65 nodes are open at once, where so many are open before
abbrev pub AreFew : ℕ → List Step → Type 0
AreFew count [] = Unit {0}
AreFew count (opens place name ∷ steps) = (count < most_bodies) × AreFew (suc count) steps
AreFew count (holds p ∷ steps) = AreFew count steps
AreFew count (closes ∷ steps) = AreFew (count - 1) steps

-- the places of the nodes that steps open
abbrev pub opened : List Step → List ℕ
opened [] = []
opened (opens place name ∷ steps) = place ∷ opened steps
opened (holds p ∷ steps) = opened steps
opened (closes ∷ steps) = opened steps

-- behind some of a tree's nodes in preorder, the steps open the others
pub record AreOpened (t : PlacedTree) (before nodes : List Placed) (steps : List Step) : Type 0 where
  pub whole : nodes_of (reading_of t) ≡ before ++ nodes
  pub places : map (λ n. place_of t n.path) nodes ≡ map (λ k. Some k) (opened steps)
