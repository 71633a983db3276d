-- What the text of a tree says, as a source.
use Rattle.std.specs.Prelude.{◌<◌, false, List, [], ◌∷◌, ◌++◌, map}
use Rattle.std.specs.List.{AllByRecursion}
use Rattle.dt_model.specs.Source.{one, Place, root, child, property, close}
use Rattle.dt_model.specs.Tree.{Property, Forest, no_nodes, branch, Reading}
use Rattle.dt_grammar.specs.Grammar.{Says}

abbrev pub property_places : List Property → List Place
property_places [] = []
property_places (p ∷ ps) = property p.name (map one p.value) ∷ property_places ps

abbrev pub node_places : Forest → List Place
node_places no_nodes = []
node_places (branch name properties children siblings) =
    child name ∷ (property_places properties ++ (node_places children ++ close ∷ node_places siblings))

abbrev pub places_of : Reading → List Place
places_of t = root ∷ (property_places t.properties ++ (node_places t.children ++ close ∷ []))

abbrev pub said : Reading → Says
said t = record { plugin = false; reservations = t.reservations; places = places_of t }

-- ---- values are bytes

abbrev pub HoldBytes : List Property → Type 0
HoldBytes properties = AllByRecursion (λ p. AllByRecursion (λ b. b < 256) p.value) properties

abbrev pub NodesHoldBytes : Forest → Type 0
NodesHoldBytes no_nodes = Unit {0}
NodesHoldBytes (branch name properties children siblings) = HoldBytes properties × NodesHoldBytes children × NodesHoldBytes siblings

pub record HasBytes (t : Reading) : Type 0 where
  pub properties : HoldBytes t.properties
  pub nodes : NodesHoldBytes t.children
