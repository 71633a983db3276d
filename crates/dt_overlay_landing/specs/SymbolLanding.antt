-- Labels of an object's nodes that land.
use Rattle.std.specs.Prelude.{◌≡◌, ◌≢◌, List, [], ◌∷◌, map, Some, codes}
use Rattle.std.specs.List.{flat_map}
use Rattle.dt_model.specs.Names.{IsPropertyName}
use Rattle.dt_model.specs.Path.{Path, path_value}
use Rattle.dt_model.specs.Tree.{Property, Reading}
use Rattle.dt_model.specs.Merged.{Site, landing}
use Rattle.dt_model.specs.Object.{fragment_names}
use Rattle.dt_model.specs.Applied.{landed_symbols, with_symbols_merged}
use Rattle.dt_model.specs.Changes.{with_property_at}
use Rattle.dt_overlay_laws.specs.Laws.{AreShallow}
use Rattle.dt_overlay_laws.specs.Objects.{symbols_in}
use Rattle.dt_overlay_object.specs.declared.brought.Brought.{Brought}
use Rattle.dt_overlay_object.specs.declared.kept.Symbol.{Symbol}
use Rattle.dt_overlay_object.specs.declared.landing.Landing.{Landing}
use Rattle.dt_overlay_object.specs.declared.object.Object.{Object}
use Rattle.dt_overlay_object.specs.Objects.{Seen, IsToLandOn}
use Rattle.dt_overlay_object.specs.Plans.{AreContents, AreSymbolsOf, symbol_brought}
use Rattle.dt_trees.specs.Placed.{PlacedTree, reading_of, path_at, IsNode}

-- the fragments of the tree have these sites, on which nothing lands too deep
pub record AreSitedAll (t : PlacedTree) (b : Brought) (sites : List Path) (found : List Site) : Type 0 where
  pub contents : AreContents t (fragment_names (reading_of t).children) b.contents.entries
  pub named : map (λ (x : Site). x.fragment) found ≡ fragment_names (reading_of t).children
  pub sited : sites ≡ map (λ (x : Site). x.at) found
  pub shallow : AreShallow (reading_of t) found

-- so have they, and these labels are kept of the tree
pub record AreToLand (t : PlacedTree) (b : Brought) (sites : List Path) (found : List Site) (labels : List Symbol) : Type 0 where
  pub all : AreSitedAll t b sites found
  pub symbols : AreSymbolsOf t labels (flat_map (symbol_brought (reading_of t)) (symbols_in (reading_of t)))

-- the label's node lands on this path, and the label may be set
pub record LandsAt (t : PlacedTree) (b : Brought) (sites : List Path) (x : Symbol) (q : Path) : Type 0 where
  pub found : List Site
  pub all : AreSitedAll t b sites found
  pub node : IsNode t x.node
  pub lands : landing found (path_at t x.node) ≡ Some q
  pub label : IsPropertyName x.label.now
  pub plain : x.label.now ≢ codes "phandle"

-- the label lands as this property
pub record LandsAs (t : PlacedTree) (b : Brought) (sites : List Path) (x : Symbol) (p : Property) : Type 0 where
  pub at : Path
  pub lands : LandsAt t b sites x at
  pub name : p.name ≡ x.label.now
  pub value : p.value ≡ path_value at

abbrev pub AreLanding : PlacedTree → Brought → List Path → List Symbol → List Property → Type 0
AreLanding t b sites [] [] = Unit {0}
AreLanding t b sites [] (p ∷ ps) = ⊥
AreLanding t b sites (x ∷ xs) [] = ⊥
AreLanding t b sites (x ∷ xs) (p ∷ ps) = LandsAs t b sites x p × AreLanding t b sites xs ps

-- ---- the same of an object that is kept, and of where it lands

abbrev pub HasLabels : {V : Type 0} → (V → PlacedTree) → List Site → Object V → Landing → Type 0
HasLabels tree found o l = AreToLand (tree o.tree.now) o.brought l.sites.items found o.symbols.items

abbrev pub HasLanded : {V : Type 0} → (V → PlacedTree) → Object V → Landing → Symbol → Path → Type 0
HasLanded tree o l x q = LandsAt (tree o.tree.now) o.brought l.sites.items x q

-- what holds of an object that may land, and of sites on which nothing lands too deep
abbrev pub WhereShallow : {V : Type 0} → (V → PlacedTree) → Object V → Landing → (Reading → List Site → Type 0) → Type 0
WhereShallow tree o l P =
    (seen : Seen) (found : List Site) → IsToLandOn tree o seen found l.sites.items → AreShallow seen.reading found → P seen.reading found

-- a tree with the label of the node that landed on the path
abbrev pub with_label : Symbol → Path → Reading → Reading
with_label x q = with_property_at (codes "__symbols__" ∷ []) x.label.now (path_value q)

-- the labels of an object that has landed on these sites
abbrev pub labels_of : Reading → List Site → List Property
labels_of read found = landed_symbols read found (symbols_in read)

-- the same of an object that is kept
abbrev pub object_labels : {V : Type 0} → (V → PlacedTree) → Object V → List Site → List Property
object_labels tree o found = labels_of (reading_of (tree o.tree.now)) found

-- a tree with them
abbrev pub with_labels_of : Reading → List Site → Reading → Reading
with_labels_of read found = with_symbols_merged (labels_of read found)
