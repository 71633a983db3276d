-- The order of a tree's nodes, properties and labels: that of the text which opened, defined and gave them (Devicetree
-- Specification v0.4, 6.3 and 6.4), each counted from the first time after the last deletion that took it.
use Rattle.std.specs.Prelude.{◌≡◌, List, [], ◌∷◌, ◌++◌, Some, map, reverse, is_some, not, ◌&&◌, if◌then◌else◌, codes}
use Rattle.dt_model.specs.Names.{Name}
use Rattle.dt_model.specs.Path.{Path}
use Rattle.dt_model.specs.Event.{stands, value_at, names, age, property_age, label_age}
use Rattle.dt_model.specs.Lists.{AreInOrder}
use Rattle.dt_model.specs.Meaning.{Meaning}
use Rattle.dt_model.specs.Source.{Events}
use Rattle.dt_model.specs.Tree as tree
use Rattle.dt_model.specs.Tree.{Property, Reading}
use Rattle.dt_model.specs.Valid as valid
use Rattle.dt_model.specs.Named as named
use Rattle.dt_model.specs.Named.{NodeReference, NamedProperty, NamedNode, Named}

-- the names are those of the children that stand below the path, in the order in which they were opened
abbrev pub AreChildrenInOrder : Events → Path → List Name → Type 0
AreChildrenInOrder es p xs = AreInOrder (λ x. age es (x ∷ reverse p)) (λ x. stands es (x ∷ reverse p)) xs

-- the names are those of the properties that stand in the path's node, in the order in which they were defined
abbrev pub ArePropertiesInOrder : Events → Path → List Name → Type 0
ArePropertiesInOrder es p xs = AreInOrder (property_age es (reverse p)) (λ x. is_some (value_at es (reverse p) x)) xs

-- the labels are those that name the path's node, in the order in which they were given
abbrev pub AreLabelsInOrder : Events → Path → List Name → Type 0
AreLabelsInOrder es p ls = AreInOrder (λ l. label_age es l (reverse p)) (λ l. names es l (reverse p)) ls

-- the property `phandle` of a keyed node in which no number is written
abbrev pub unwritten : Meaning → Path → List Name
unwritten m p = if m.keyed p && not (is_some (m.number p)) then codes "phandle" ∷ [] else []

-- At each node the children and the properties are in the order of the text; a number that isn't written comes last.
pub record IsInOrder (es : Events) (m : Meaning) (t : Reading) : Type 0 where
  pub children : (p : Path) (n : tree.Node) → tree.node_at t p ≡ Some n → AreChildrenInOrder es p (valid.names n.children)
  pub properties : (p : Path) (n : tree.Node) → tree.node_at t p ≡ Some n →
      (defined : List Name) × (map (λ (x : Property). x.name) n.properties ≡ defined ++ unwritten m p) × ArePropertiesInOrder es p defined

-- the same of a tree whose nodes have no numbers yet
pub record IsNamedInOrder (es : Events) (t : Named NodeReference) : Type 0 where
  pub children : (p : Path) (n : NamedNode NodeReference) → named.node_at t p ≡ Some n → AreChildrenInOrder es p (named.names n.children)
  pub properties : (p : Path) (n : NamedNode NodeReference) → named.node_at t p ≡ Some n →
      ArePropertiesInOrder es p (map (λ (x : NamedProperty NodeReference). x.name) n.content.properties)
  pub labels : (p : Path) (n : NamedNode NodeReference) → named.node_at t p ≡ Some n → AreLabelsInOrder es p n.content.labels
