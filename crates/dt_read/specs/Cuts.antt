-- A structure block in which some bytes are replaced, and the tree that it then spells.
use Rattle.std.specs.Prelude.{◌≡◌, ℕ, zero, suc, ◌+◌, ◌-◌, ◌<◌, ◌≤◌, true, false, List, [], ◌∷◌, ◌++◌, length, take, drop, map, Option, Some, None, nat_lt, if◌then◌else◌}
use Rattle.std.specs.List.{AllByRecursion}
use Rattle.std.specs.Str.{bytes_eq}
use Rattle.dt_model.specs.Changes.{set_property}
use Rattle.dt_model.specs.Checks.{number, strings_of, structure_of}
use Rattle.dt_model.specs.Format.{prop, word, part, Spells, SpellsBegin, SpellsProperty}
use Rattle.dt_model.specs.Lexing.{padded}
use Rattle.dt_model.specs.Names.{Name}
use Rattle.dt_model.specs.Path.{Path}
use Rattle.dt_model.specs.Tree.{Property, value_in}
use Rattle.dt_read.specs.Checked.{placed_of, root_of}
use Rattle.dt_read.specs.Marks.{Mark, begin_mark, end_mark, prop_mark, nop_mark, last_mark, SpellsMarks, Root, marks_of_nodes, marks_of, without_nop_marks}
use Rattle.dt_trees.specs.Placed.{Nodes, no_nodes, node, path_at, reading_of}
use Rattle.dt_read.specs.TreeTokens.{AreTokens, marks_in}

-- ---- trees with one node changed

-- what a node has
pub record Content : Type 0 where
  pub properties : List Property
  pub children : Nodes

-- siblings with what the first one of a name has changed
abbrev pub changed_named : (Content → Content) → Nodes → Name → Nodes
changed_named change no_nodes x = no_nodes
changed_named change (node place name properties children siblings) x =
    if bytes_eq x name
    then (let c : Content = change (record { properties = properties; children = children }) in node place name c.properties c.children siblings)
    else node place name properties children (changed_named change siblings x)

-- the same of the node of a path
abbrev pub changed_content : (Content → Content) → Path → Content → Content
changed_content change [] c = change c
changed_content change (x ∷ p) c = record { properties = c.properties; children = changed_named (changed_content change p) c.children x }

abbrev pub content_of : Root → Content
content_of t = record { properties = t.properties; children = t.children }

abbrev pub changed_root : (Content → Content) → Path → Root → Root
changed_root change p t = let c : Content = changed_content change p (content_of t) in record { place = t.place; properties = c.properties; children = c.children }

-- a property set: one that is there keeps its place among the others, a new one goes last
abbrev pub with_value : Name → List ℕ → Content → Content
with_value name value c = record { properties = set_property c.properties name value; children = c.children }

-- siblings with one more behind them, which has nothing
abbrev pub appended : Nodes → ℕ → Name → Nodes
appended no_nodes place name = node place name [] no_nodes no_nodes
appended (node other x properties children siblings) place name = node other x properties children (appended siblings place name)

-- a node added behind the others
abbrev pub with_node : ℕ → Name → Content → Content
with_node place name c = record { properties = c.properties; children = appended c.children place name }

-- ---- places that move

-- where a place comes to be: those from one on move, since bytes before it that were so many are now so many
abbrev pub moved : (from was is : ℕ) → ℕ → ℕ
moved from was is place = if nat_lt place from then place else place + is - was

abbrev pub moved_nodes : (ℕ → ℕ) → Nodes → Nodes
moved_nodes f no_nodes = no_nodes
moved_nodes f (node place name properties children siblings) = node (f place) name properties (moved_nodes f children) (moved_nodes f siblings)

abbrev pub moved_content : (ℕ → ℕ) → Content → Content
moved_content f c = record { properties = c.properties; children = moved_nodes f c.children }

abbrev pub moved_root : (ℕ → ℕ) → Root → Root
moved_root f t = record { place = f t.place; properties = t.properties; children = moved_nodes f t.children }

-- ---- blocks

-- a block with so many bytes at an offset replaced
abbrev pub spliced : (cut size : ℕ) (own block : List ℕ) → List ℕ
spliced cut size own block = take cut block ++ (own ++ drop (cut + size) block)

-- the block, at that place, spells the tree
pub record SpellsRoot (strings : List ℕ) (at : ℕ) (block : List ℕ) (tree : Root) : Type 0 where
  pub marks : List Mark
  pub spelled : SpellsMarks strings at (marks ++ last_mark ∷ []) block
  pub whole : without_nop_marks marks ≡ marks_of tree

-- the tokens between a place and a later one, without NOPs
pub record Passes (strings : List ℕ) (at : ℕ) (bytes : List ℕ) (here : ℕ) (marks : List Mark) : Type 0 where
  pub front : List Mark
  pub spelled : SpellsMarks strings at front (take (here - at) bytes)
  pub are : without_nop_marks front ≡ marks

-- ---- where a blob is cut

-- so many bytes of the structure block behind a node's beginning
pub record IsBehindNode (bytes : List ℕ) (node cut size : ℕ) : Type 0 where
  pub begun : node < number bytes 8 + cut
  pub inside : cut + size ≤ length (structure_of bytes)

-- how many bytes the token of a property takes; the value may be missing
abbrev pub property_size : Option (List ℕ) → ℕ
property_size None = 0
property_size (Some value) = padded (12 + length value)

-- a token of so many bytes at a place of a block is the property, where it is there
abbrev pub IsTokenOf : (strings block : List ℕ) (cut size : ℕ) → Name → Option (List ℕ) → Type 0
IsTokenOf strings block cut size name None = Unit {0}
IsTokenOf strings block cut size name (Some value) = SpellsProperty strings (record { name = name; value = value }) (part cut size block)

-- the bytes of a node's property of a name, or none where a new one goes
pub record IsPropertyCut (bytes : List ℕ) (node : ℕ) (name : Name) (cut size : ℕ) : Type 0 where
  pub behind : IsBehindNode bytes node cut size
  pub taken : size ≡ property_size (value_in (reading_of (placed_of bytes)) (path_at (placed_of bytes) node) name)
  pub token : IsTokenOf (strings_of bytes) (structure_of bytes) cut size name (value_in (reading_of (placed_of bytes)) (path_at (placed_of bytes) node) name)
  pub becomes : (value own more : List ℕ) → Spells (strings_of bytes ++ more) (prop (record { name = name; value = value })) own
      → SpellsRoot (strings_of bytes ++ more) (number bytes 8) (spliced cut size own (structure_of bytes))
      (changed_root (with_value name value) (path_at (placed_of bytes) node) (moved_root (moved (number bytes 8 + cut) size (length own)) (root_of bytes)))

-- the place of a node's END_NODE, where a new child goes
pub record IsEndCut (bytes : List ℕ) (node cut : ℕ) : Type 0 where
  pub behind : IsBehindNode bytes node cut 0
  pub becomes : (name : Name) (own more : List ℕ) → SpellsBegin name own
      → SpellsRoot (strings_of bytes ++ more) (number bytes 8) (spliced cut 0 (own ++ word 2) (structure_of bytes))
      (changed_root (with_node (number bytes 8 + cut) name) (path_at (placed_of bytes) node)
      (moved_root (moved (number bytes 8 + cut) 0 (length (own ++ word 2))) (root_of bytes)))

-- ---- inside

-- the tokens behind a node's BEGIN_NODE, and more
abbrev pub marks_of_content : Content → List Mark → List Mark
marks_of_content c more = map prop_mark c.properties ++ (marks_of_nodes c.children ++ more)

-- no property is at the front
abbrev pub HasNoProperty : List Mark → Type 0
HasNoProperty (prop_mark p ∷ marks) = ⊥
HasNoProperty marks = Unit {0}

-- the property that a look for a name finds, or none, and then what is behind the properties
abbrev pub IsFoundProperty : Name → List Property → List Mark → Type 0
IsFoundProperty name [] behind = HasNoProperty behind
IsFoundProperty name (p ∷ []) behind = bytes_eq name p.name ≡ true
IsFoundProperty name (p ∷ q ∷ ps) behind = ⊥

-- how many bytes a look for a property finds
abbrev pub found_size : List Property → ℕ
found_size [] = 0
found_size (p ∷ ps) = property_size (Some p.value)

-- what a look for a property finds is its token
abbrev pub IsFoundToken : (strings bytes : List ℕ) → List Property → Type 0
IsFoundToken strings bytes [] = Unit {0}
IsFoundToken strings bytes (p ∷ ps) = SpellsProperty strings p (take (property_size (Some p.value)) bytes)

-- where the property of a name lies among those at the front of some tokens, or would lie behind them
pub record IsPropertyExtent (strings : List ℕ) (at : ℕ) (bytes : List ℕ) (name : Name) (from to : ℕ) : Type 0 where
  pub before : List Property
  pub own : List Property
  pub left : List Mark
  pub whole : marks_in strings at bytes ≡ map prop_mark before ++ (map prop_mark own ++ left)
  pub others : AllByRecursion (λ p. bytes_eq name p.name ≡ false) before
  pub is : IsFoundProperty name own left
  pub passes : Passes strings at bytes from (map prop_mark before)
  pub passed : Passes strings at bytes to (map prop_mark before ++ map prop_mark own)
  pub first : at ≤ from
  pub size : to ≡ from + found_size own
  pub token : IsFoundToken strings (drop (from - at) bytes) own
  pub within : to - at ≤ length bytes
  pub tokens : AreTokens strings to (drop (to - at) bytes)
  pub behind : marks_in strings to (drop (to - at) bytes) ≡ left

-- how many nodes are open behind some tokens, None where more have ended than were open
abbrev pub opened : List Mark → ℕ → Option ℕ
opened [] depth = Some depth
opened (begin_mark place name ∷ marks) depth = opened marks (suc depth)
opened (end_mark ∷ marks) zero = None
opened (end_mark ∷ marks) (suc depth) = opened marks depth
opened (prop_mark p ∷ marks) depth = opened marks depth
opened (nop_mark ∷ marks) depth = opened marks depth
opened (last_mark ∷ marks) depth = opened marks depth

-- the END_NODE behind what a node has
pub record IsEndPlace (strings : List ℕ) (at : ℕ) (bytes : List ℕ) (here : ℕ) : Type 0 where
  pub inside : List Mark
  pub left : List Mark
  pub whole : marks_in strings at bytes ≡ inside ++ end_mark ∷ left
  pub balanced : opened inside 0 ≡ Some 0
  pub passes : Passes strings at bytes here inside
  pub first : at ≤ here
  pub within : here - at ≤ length bytes
  pub tokens : AreTokens strings here (drop (here - at) bytes)
  pub behind : marks_in strings here (drop (here - at) bytes) ≡ end_mark ∷ left
