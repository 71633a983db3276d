-- The nodes of an object as they land.
use Rattle.std.specs.Prelude.{◌≡◌, ◌⊎◌, ℕ, true, List, [], ◌∷◌, ◌++◌, map, Option, option_and_then, unwrap_or}
use Rattle.dt_model.specs.Path.{Path}
use Rattle.dt_model.specs.Tree.{Forest, no_nodes, branch, Property, Reading, Node, stands_in}
use Rattle.dt_model.specs.Merged.{Site}
use Rattle.dt_overlay_laws.specs.Steps.{land_fragments, land_node, MayLandFragments, MayLandNode, FullAtFragments, FullAtNode}
use Rattle.dt_overlay_laws.specs.Writing.{landed_property}
use Rattle.dt_overlay_object.specs.Objects.{Seen, writes_of}
use Rattle.dt_overlay_base.specs.NodeNumbers.{at_node}
use Rattle.dt_overlay_object.specs.declared.object.Object.{Object}
use Rattle.dt_overlay_object.specs.declared.kept.ObjectFragment.{ObjectFragment}
use Rattle.dt_overlay_landing.specs.declared.landing.LandingNode.{LandingNode}
use Rattle.dt_overlay_landing.specs.Values.{Kept, with_kept}
use Rattle.dt_trees.specs.Placed.{PlacedTree, path_at, place_of, properties_at, below_at}

-- ---- nodes by their paths, with the numbers that a table has for them, and the values that are kept of their properties

abbrev pub number_at : PlacedTree → List (ℕ × ℕ) → Path → Option ℕ
number_at t numbers p = option_and_then (at_node numbers) (place_of t p)

abbrev pub property_landed : PlacedTree → List (ℕ × ℕ) → List Kept → Path → Property → Property
property_landed t numbers vs p x = landed_property (number_at t numbers p) (with_kept vs (unwrap_or (place_of t p) 0) x)

abbrev pub forest_landed : PlacedTree → List (ℕ × ℕ) → List Kept → Path → Forest → Forest
forest_landed t numbers vs p no_nodes = no_nodes
forest_landed t numbers vs p (branch name properties children siblings) =
    branch name (map (property_landed t numbers vs (p ++ name ∷ [])) properties) (forest_landed t numbers vs (p ++ name ∷ []) children)
    (forest_landed t numbers vs p siblings)

-- a node with those below it
abbrev pub node_landed : PlacedTree → List (ℕ × ℕ) → List Kept → Path → Node
node_landed t numbers vs p = record {
  properties = map (property_landed t numbers vs p) (properties_at t p);
  children = forest_landed t numbers vs p (below_at t p);
}

-- ---- some of the nodes, each landed on its site, as far as both lists go

abbrev pub land_each : (ℕ → Node) → List ObjectFragment → List Path → Reading → Reading
land_each landed [] sites t = t
land_each landed (x ∷ xs) [] t = t
land_each landed (x ∷ xs) (q ∷ sites) t = land_each landed xs sites (land_node q (landed x.content) t)

-- each site is there, and nothing but memory and the number of nodes is in the way
abbrev pub MayLandEach : (ℕ → Node) → List ObjectFragment → List Path → Reading → Type 0
MayLandEach landed [] sites t = Unit {0}
MayLandEach landed (x ∷ xs) [] t = Unit {0}
MayLandEach landed (x ∷ xs) (q ∷ sites) t =
    (stands_in t q ≡ true) × MayLandNode q (landed x.content) t × MayLandEach landed xs sites (land_node q (landed x.content) t)

-- a change on the way for which there is no room
abbrev pub FullAtEach : (Reading → Reading → Type 0) → (ℕ → Node) → List ObjectFragment → List Path → Reading → Type 0
FullAtEach full landed [] sites t = ⊥
FullAtEach full landed (x ∷ xs) [] t = ⊥
FullAtEach full landed (x ∷ xs) (q ∷ sites) t =
    FullAtNode full q (landed x.content) t ⊎ FullAtEach full landed xs sites (land_node q (landed x.content) t)

-- ---- the same of an object

-- a property of a node that lands
abbrev pub landed_as : LandingNode → Property → Property
landed_as l p = landed_property (at_node l.brought.now.numbers.entries l.node) (with_kept l.values.now l.node p)

-- all of them
abbrev pub landed_properties : PlacedTree → LandingNode → List Property
landed_properties t l = map (landed_as l) (properties_at t (path_at t l.node))

-- a node with those below it
abbrev pub landed_with : {V : Type 0} → (V → PlacedTree) → Object V → List Kept → ℕ → Node
landed_with tree o vs k = node_landed (tree o.tree.now) o.brought.numbers.entries vs (path_at (tree o.tree.now) k)

-- ---- the same of what an object is seen as

abbrev pub MayLandSeen : Reading → Seen → List Site → Type 0
MayLandSeen t seen found = MayLandFragments t seen.reading (writes_of seen) seen.numbers found

abbrev pub seen_landed : Reading → Seen → List Site → Reading
seen_landed t seen found = land_fragments t seen.reading (writes_of seen) seen.numbers found

abbrev pub FullAtSeen : (Reading → Reading → Type 0) → Reading → Seen → List Site → Type 0
FullAtSeen full t seen found = FullAtFragments full t seen.reading (writes_of seen) seen.numbers found
