-- Names that differ (Devicetree Specification v0.4, 2.2), by the nodes' places.
use Rattle.std.specs.Prelude.{◌≡◌, ℕ, List, [], ◌∷◌, map, Some}
use Rattle.dt_model.specs.Names.{Name}
use Rattle.dt_model.specs.Tree.{Property}
use Rattle.dt_model.specs.Valid.{AreDistinct}
use Rattle.dt_read.specs.Marks.{Mark, begin_mark, end_mark, prop_mark, nop_mark, last_mark, Root}
use Rattle.dt_read.specs.Parsing.{left_by}
use Rattle.dt_read.specs.TreeTokens.{Parts, node_of, heads_of}

abbrev pub property_names : List Property → List Name
property_names properties = map (λ p. p.name) properties

abbrev pub head_names : List (ℕ × Name) → List Name
head_names heads = map (λ h. h.1) heads

-- no two properties and no two children of a node have one name
pub record AreDistinctParts (parts : Parts) : Type 0 where
  pub properties : AreDistinct (property_names parts.properties)
  pub children : AreDistinct (head_names (heads_of parts.children))

-- so in each node
abbrev pub HasDistinctNames : Root → Type 0
HasDistinctNames tree = (place : ℕ) (parts : Parts) → node_of tree place ≡ Some parts → AreDistinctParts parts

-- the properties behind each BEGIN_NODE have names that differ
abbrev pub AreDistinctInEach : List Mark → Type 0
AreDistinctInEach [] = Unit {0}
AreDistinctInEach (begin_mark place name ∷ marks) = AreDistinct (property_names (left_by marks).properties) × AreDistinctInEach marks
AreDistinctInEach (end_mark ∷ marks) = AreDistinctInEach marks
AreDistinctInEach (prop_mark p ∷ marks) = AreDistinctInEach marks
AreDistinctInEach (nop_mark ∷ marks) = AreDistinctInEach marks
AreDistinctInEach (last_mark ∷ marks) = AreDistinctInEach marks
