-- Tokens with the places of nodes (Devicetree Specification v0.4, 5.4).
use Rattle.std.specs.Prelude.{◌≡◌, ℕ, ◌+◌, ◌≤◌, List, [], ◌∷◌, ◌++◌, length, take, map}
use Rattle.dt_model.specs.Names.{Name}
use Rattle.dt_model.specs.Tree.{Property}
use Rattle.dt_model.specs.Format.{Token, begin_node, end_node, prop, nop, end_tree, Spells}
use Rattle.dt_trees.specs.Placed.{Nodes, no_nodes, node}

-- a token, where a node's beginning has its place
pub data Mark : Type 0 where
  begin_mark : (place : ℕ) (name : Name) → Mark
  end_mark : Mark
  prop_mark : (p : Property) → Mark
  nop_mark : Mark
  last_mark : Mark

abbrev pub token_of : Mark → Token
token_of (begin_mark place name) = begin_node name
token_of end_mark = end_node
token_of (prop_mark p) = prop p
token_of nop_mark = nop
token_of last_mark = end_tree

-- the token at a place
abbrev pub mark_at : ℕ → Token → Mark
mark_at at (begin_node name) = begin_mark at name
mark_at at end_node = end_mark
mark_at at (prop p) = prop_mark p
mark_at at nop = nop_mark
mark_at at end_tree = last_mark

-- own is the token, which is at that place
pub record SpellsMark (strings : List ℕ) (at : ℕ) (mark : Mark) (own : List ℕ) : Type 0 where
  pub placed : mark_at at (token_of mark) ≡ mark
  pub token : Spells strings (token_of mark) own

-- the bytes, from that place on, are these tokens, one after another
abbrev pub SpellsMarks : List ℕ → ℕ → List Mark → List ℕ → Type 0
SpellsMarks strings at [] bytes = bytes ≡ []
SpellsMarks strings at (mark ∷ marks) bytes =
    (own rest : List ℕ) × (bytes ≡ own ++ rest) × SpellsMark strings at mark own × SpellsMarks strings (at + length own) marks rest

-- the first n bytes are the token
pub record Takes (strings bytes : List ℕ) (token : Token) (n : ℕ) : Type 0 where
  pub spelled : Spells strings token (take n bytes)
  pub within : n ≤ length bytes
  pub positive : 4 ≤ n

-- the root, which has no name and no siblings
pub record Root : Type 0 where
  pub place : ℕ
  pub properties : List Property
  pub children : Nodes

abbrev pub marks_of_nodes : Nodes → List Mark
marks_of_nodes no_nodes = []
marks_of_nodes (node place name properties children siblings) =
    begin_mark place name ∷ (map prop_mark properties ++ (marks_of_nodes children ++ end_mark ∷ marks_of_nodes siblings))

abbrev pub marks_of : Root → List Mark
marks_of tree = begin_mark tree.place [] ∷ (map prop_mark tree.properties ++ (marks_of_nodes tree.children ++ end_mark ∷ []))

abbrev pub without_nop_marks : List Mark → List Mark
without_nop_marks [] = []
without_nop_marks (nop_mark ∷ marks) = without_nop_marks marks
without_nop_marks (begin_mark place name ∷ marks) = begin_mark place name ∷ without_nop_marks marks
without_nop_marks (end_mark ∷ marks) = end_mark ∷ without_nop_marks marks
without_nop_marks (prop_mark p ∷ marks) = prop_mark p ∷ without_nop_marks marks
without_nop_marks (last_mark ∷ marks) = last_mark ∷ without_nop_marks marks
