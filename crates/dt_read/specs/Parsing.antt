-- The tree that some bytes spell, as a function: it has junk values at bytes that spell none.
use Rattle.dt_model.specs.Tree.{Property}
use Rattle.dt_trees.specs.Placed.{Nodes, no_nodes, node}
use Rattle.dt_read.specs.Marks.{Mark, begin_mark, end_mark, prop_mark, nop_mark, last_mark, mark_at, Root}
use Rattle.std.specs.Prelude.{ℕ, zero, suc, ◌+◌, List, [], ◌∷◌, length, drop, Option, Some, None}
use Rattle.dt_model.specs.Format.{Token}
use Rattle.dt_model.specs.Lexing.{token_in}

abbrev pub behind : Option (Token × ℕ) → ℕ → (ℕ → List Mark) → List Mark
behind None at later = []
behind (Some p) at later = mark_at at p.0 ∷ later p.1

-- at most that many tokens from the front, with their places
unfoldable pub lexed : ℕ → List ℕ → ℕ → List ℕ → List Mark
lexed zero strings at bytes = []
lexed (suc fuel) strings at bytes = behind (token_in strings bytes) at (λ n. lexed fuel strings (at + n) (drop n bytes))

-- What is left of the innermost open node, and of each node round it: its properties, and for each the children that are left.
pub record Left : Type 0 where
  pub properties : List Property
  pub levels : List Nodes

abbrev pub begun : ℕ → List ℕ → (List Property) → List Nodes → List Nodes
begun place name properties [] = node place name properties no_nodes no_nodes ∷ []
begun place name properties (children ∷ []) = node place name properties children no_nodes ∷ []
begun place name properties (children ∷ siblings ∷ levels) = node place name properties children siblings ∷ levels

-- what the tokens leave, read from their end
abbrev pub left_by : List Mark → Left
left_by [] = record { properties = []; levels = [] }
left_by (last_mark ∷ marks) = record { properties = []; levels = [] }
left_by (nop_mark ∷ marks) = left_by marks
left_by (end_mark ∷ marks) = record { properties = []; levels = no_nodes ∷ (left_by marks).levels }
left_by (prop_mark p ∷ marks) = record { properties = p ∷ (left_by marks).properties; levels = (left_by marks).levels }
left_by (begin_mark place name ∷ marks) = record { properties = []; levels = begun place name (left_by marks).properties (left_by marks).levels }

abbrev pub root_left : List Nodes → Root
root_left [] = record { place = 0; properties = []; children = no_nodes }
root_left (no_nodes ∷ levels) = record { place = 0; properties = []; children = no_nodes }
root_left (node place name properties children siblings ∷ levels) = record { place = place; properties = properties; children = children }

abbrev pub tree_of_marks : List Mark → Root
tree_of_marks marks = root_left (left_by marks).levels

-- the tree of a structure block at that offset
abbrev pub tree_in : List ℕ → ℕ → List ℕ → Root
tree_in strings at block = tree_of_marks (lexed (length block) strings at block)
