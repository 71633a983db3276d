-- The tree that some tokens are, as a function: at tokens that are no tree's its value says nothing.
use Rattle.std.specs.Prelude.{List, [], ◌∷◌}
use Rattle.dt_model.specs.Names.{Name}
use Rattle.dt_model.specs.Tree.{Property, Forest, no_nodes, branch, Node}
use Rattle.dt_model.specs.Format.{Token, begin_node, end_node, prop, nop, end_tree}

-- What is left, at a place among the tokens, of the innermost open node and of those round it: the properties of the
-- innermost, and for each the children that are left.
pub record Left : Type 0 where
  pub properties : List Property
  pub levels : List Forest

-- the same before a node that begins here: what is left of it is a node, beside what is left of its siblings
abbrev pub begun : Name → List Property → List Forest → List Forest
begun name properties [] = branch name properties no_nodes no_nodes ∷ []
begun name properties (children ∷ []) = branch name properties children no_nodes ∷ []
begun name properties (children ∷ siblings ∷ levels) = branch name properties children siblings ∷ levels

-- what the tokens leave, read from their end
abbrev pub left_by : List Token → Left
left_by [] = record { properties = []; levels = [] }
left_by (end_tree ∷ tokens) = record { properties = []; levels = [] }
left_by (nop ∷ tokens) = left_by tokens
left_by (end_node ∷ tokens) = record { properties = []; levels = no_nodes ∷ (left_by tokens).levels }
left_by (prop p ∷ tokens) = record { properties = p ∷ (left_by tokens).properties; levels = (left_by tokens).levels }
left_by (begin_node name ∷ tokens) =
    record { properties = []; levels = begun name (left_by tokens).properties (left_by tokens).levels }

-- the first node
abbrev pub first_node : List Forest → Node
first_node [] = record { properties = []; children = no_nodes }
first_node (no_nodes ∷ levels) = record { properties = []; children = no_nodes }
first_node (branch name properties children siblings ∷ levels) = record { properties = properties; children = children }

-- the root of a tree's tokens
abbrev pub tree_of_tokens : List Token → Node
tree_of_tokens tokens = first_node (left_by tokens).levels
