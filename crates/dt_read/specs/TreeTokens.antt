-- The tokens of a tree: what is left to read at a place of the structure block, and what a node has.
use Rattle.dt_model.specs.Tree.{Property}
use Rattle.dt_trees.specs.Placed.{Nodes, no_nodes, node, forest_of}
use Rattle.std.specs.List.{AllByRecursion}
use Rattle.std.specs.Str.{bytes_eq}
use Rattle.dt_model.specs.Names.{IsNodeName, IsPropertyName}
use Rattle.dt_model.specs.Valid.{node_count, IsNoDeeper}
use Rattle.dt_model.specs.Checks.{IsSpelled}
use Rattle.dt_read.specs.Marks.{Mark, begin_mark, end_mark, prop_mark, nop_mark, last_mark, SpellsMarks, Root, marks_of_nodes, marks_of, without_nop_marks}
use Rattle.std.specs.Prelude.{◌≡◌, ℕ, zero, suc, ◌+◌, ◌<◌, ◌≤◌, ◌^◌, List, [], ◌∷◌, ◌++◌, length, map, Option, Some, None, ◌==◌, if◌then◌else◌}
use Rattle.dt_model.specs.Limits.{most_names, most_nodes}
use Rattle.dt_read.specs.Parsing.{lexed, left_by, tree_in}

-- the tokens at an offset, without NOPs
abbrev pub marks_in : List ℕ → ℕ → List ℕ → List Mark
marks_in strings at bytes = without_nop_marks (lexed (length bytes) strings at bytes)

-- the bytes at that offset are tokens, all of them
pub record AreTokens (strings : List ℕ) (at : ℕ) (bytes : List ℕ) : Type 0 where
  pub marks : List Mark
  pub spelled : SpellsMarks strings at marks bytes
  pub small : at + length bytes < 2 ^ 32

-- the nodes and their properties are called so
abbrev pub AreNamed : Nodes → Type 0
AreNamed no_nodes = Unit {0}
AreNamed (node place name properties children siblings) =
    IsNodeName name × AllByRecursion (λ p. IsPropertyName p.name) properties × AreNamed children × AreNamed siblings

-- what a node has, and the siblings behind it
pub record Parts : Type 0 where
  pub name : List ℕ
  pub properties : List Property
  pub children : Nodes
  pub siblings : Nodes

abbrev pub or_else : Option Parts → Option Parts → Option Parts
or_else None other = other
or_else (Some parts) other = Some parts

-- the node of that place, where there is one
abbrev pub find_in : ℕ → Nodes → Option Parts
find_in place no_nodes = None
find_in place (node other name properties children siblings) =
    if other == place then Some (record { name = name; properties = properties; children = children; siblings = siblings })
    else or_else (find_in place children) (find_in place siblings)

abbrev pub node_of : Root → ℕ → Option Parts
node_of tree place =
    if tree.place == place then Some (record { name = []; properties = tree.properties; children = tree.children; siblings = no_nodes })
    else find_in place tree.children

-- the tokens behind a node's BEGIN_NODE, and those behind the node
abbrev pub marks_of_parts : Parts → List Mark → List Mark
marks_of_parts parts more = map prop_mark parts.properties ++ (marks_of_nodes parts.children ++ end_mark ∷ more)

-- no node begins at the front
abbrev pub IsEnd : List Mark → Type 0
IsEnd (begin_mark place name ∷ marks) = ⊥
IsEnd marks = Unit {0}

-- the tokens behind a node: its siblings, behind which no node begins
pub record FollowsNode (more : List Mark) (siblings : Nodes) : Type 0 where
  pub rest : List Mark
  pub whole : more ≡ marks_of_nodes siblings ++ rest
  pub ends : IsEnd rest

-- the tokens from a node on
pub record BeginsNode (marks : List Mark) (place : ℕ) (parts : Parts) : Type 0 where
  pub more : List Mark
  pub whole : marks ≡ begin_mark place parts.name ∷ marks_of_parts parts more
  pub follows : FollowsNode more parts.siblings

-- the place of the first of some siblings
abbrev pub first_place : Nodes → Option ℕ
first_place no_nodes = None
first_place (node place name properties children siblings) = Some place

-- the places and names of siblings
abbrev pub heads_of : Nodes → List (ℕ × List ℕ)
heads_of no_nodes = []
heads_of (node place name properties children siblings) = (place, name) ∷ heads_of siblings

-- the place of the sibling of a name
abbrev pub head_named : List (ℕ × List ℕ) → List ℕ → Option ℕ
head_named [] name = None
head_named (head ∷ heads) name = if bytes_eq name head.1 then Some head.0 else head_named heads name

-- what follows the END_NODEs of that many open nodes
abbrev pub past : List Mark → ℕ → List Mark
past [] open_nodes = []
past (begin_mark place name ∷ marks) zero = begin_mark place name ∷ marks
past (begin_mark place name ∷ marks) (suc open_nodes) = past marks (suc (suc open_nodes))
past (end_mark ∷ marks) zero = end_mark ∷ marks
past (end_mark ∷ marks) (suc open_nodes) = past marks open_nodes
past (prop_mark p ∷ marks) zero = prop_mark p ∷ marks
past (prop_mark p ∷ marks) (suc open_nodes) = past marks (suc open_nodes)
past (nop_mark ∷ marks) zero = nop_mark ∷ marks
past (nop_mark ∷ marks) (suc open_nodes) = past marks (suc open_nodes)
past (last_mark ∷ marks) zero = last_mark ∷ marks
past (last_mark ∷ marks) (suc open_nodes) = past marks (suc open_nodes)

-- what follows the properties at the front
abbrev pub past_properties : List Mark → List Mark
past_properties (prop_mark p ∷ marks) = past_properties marks
past_properties marks = marks

-- what follows the properties of other names at the front
abbrev pub past_others : List ℕ → List Mark → List Mark
past_others name (prop_mark p ∷ marks) = if bytes_eq name p.name then prop_mark p ∷ marks else past_others name marks
past_others name marks = marks

-- The block, at that place, spells the tree, whose names are names, and which is within the limits.
pub record HasTree (strings : List ℕ) (at : ℕ) (block : List ℕ) (tree : Root) : Type 0 where
  pub marks : List Mark
  pub spelled : SpellsMarks strings at (marks ++ last_mark ∷ []) block
  pub whole : without_nop_marks marks ≡ marks_of tree
  pub checked : IsSpelled strings block tree.properties (forest_of tree.children)
  pub properties : AllByRecursion (λ p. IsPropertyName p.name) tree.properties
  pub nodes : AreNamed tree.children
  pub count : 1 + node_count (forest_of tree.children) ≤ most_nodes
  pub depth : IsNoDeeper most_names 1 (forest_of tree.children)

-- a structure block whose one reading is the tree
pub record IsStructure (strings : List ℕ) (at : ℕ) (block : List ℕ) : Type 0 where
  pub tree : HasTree strings at block (tree_in strings at block)
  pub small : at + length block < 2 ^ 32

-- siblings, and the end of the node that they stand in
pub record AreSiblings (marks : List Mark) : Type 0 where
  pub siblings : Nodes
  pub more : List Mark
  pub whole : marks ≡ marks_of_nodes siblings ++ end_mark ∷ more

abbrev pub first_heads : List Nodes → List (ℕ × List ℕ)
first_heads [] = []
first_heads (nodes ∷ levels) = heads_of nodes

-- the places and names of the siblings at the front
abbrev pub heads_left : List Mark → List (ℕ × List ℕ)
heads_left marks = first_heads (left_by marks).levels
