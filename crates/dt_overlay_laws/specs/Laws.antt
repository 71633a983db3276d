-- What landing change by change comes to.
use Rattle.std.specs.Prelude.{◌≡◌, ◌≢◌, ℕ, ◌+◌, ◌≤◌, true, false, List, [], ◌∷◌, ◌++◌, length, Some, codes}
use Rattle.std.specs.List.{AllByRecursion}
use Rattle.dt_model.specs.Limits.{most_names}
use Rattle.dt_model.specs.Names.{Name, IsPropertyName}
use Rattle.dt_model.specs.Path.{Path}
use Rattle.dt_model.specs.Tree.{Property, Forest, Reading, Node, node_at, stands_in}
use Rattle.dt_model.specs.Valid.{IsValid, IsWithinLimits, node_count}
use Rattle.dt_model.specs.Changes.{merged_node, changed_at, with_child_at, with_property_at}
use Rattle.dt_model.specs.Merged.{Site, landing}
use Rattle.dt_model.specs.Object.{Cell, fragment_names, properties_of}
use Rattle.dt_model.specs.Applied.{Write, writes, with_fragments, landed_symbols, with_symbols_merged}
use Rattle.dt_overlay_model.specs.Walk.{Walked, nothing_walked, walk, new_numbers, may_land}
use Rattle.dt_overlay_laws.specs.Steps.{land_properties, land_nodes, land_node, land_fragments, MayLandFragments}
use Rattle.dt_overlay_laws.specs.Objects.{HasCells}

-- ---- landing is merging

-- landing a node merges it into the one that is there
abbrev pub LandingIsMerging : Type 0
LandingIsMerging = (q : Path) (m : Node) (t : Reading) → land_node q m t ≡ changed_at (λ n. merged_node n m) q t

-- so it is with what fragments bring
abbrev pub FragmentsAreMerged : Type 0
FragmentsAreMerged = (t object : Reading) (ws : List Write) (numbers : List (Path × ℕ)) (sites : List Site)
    → land_fragments t object ws numbers sites ≡ with_fragments t object ws numbers sites

-- and with symbols
abbrev pub SymbolsAreMerged : Type 0
SymbolsAreMerged = (p : Property) (ps : List Property) (t : Reading)
    → land_properties (codes "__symbols__" ∷ []) (p ∷ ps) (with_child_at [] (codes "__symbols__") t) ≡ with_symbols_merged (p ∷ ps) t

-- ---- no landing takes nodes away

abbrev pub NodesAreKept : Type 0
NodesAreKept = (q : Path) (f : Forest) (ps : List Property) (t : Reading) →
    (node_count t.children ≤ node_count (land_nodes q f t).children) × (node_count (land_properties q ps t).children ≡ node_count t.children)

-- a child that is new is one more
abbrev pub ChildIsCounted : Type 0
ChildIsCounted = (q : Path) (name : Name) (t : Reading) → stands_in t q ≡ true → stands_in t (q ++ name ∷ []) ≡ false →
    node_count (with_child_at q name t).children ≡ 1 + node_count t.children

-- one that is there changes nothing
abbrev pub ChildIsThere : Type 0
ChildIsThere = (q : Path) (name : Name) (t : Reading) → stands_in t (q ++ name ∷ []) ≡ true → with_child_at q name t ≡ t

-- a child that is added is there
abbrev pub ChildStands : Type 0
ChildStands = (q : Path) (name : Name) (t : Reading) → stands_in t q ≡ true → stands_in (with_child_at q name t) (q ++ name ∷ []) ≡ true

-- a node that is there stays, whatever lands
pub record PlacesAreKept : Type 0 where
  pub child : (q : Path) (name : Name) (t : Reading) (p : Path) → stands_in t p ≡ true → stands_in (with_child_at q name t) p ≡ true
  pub property : (q : Path) (name : Name) (value : List ℕ) (t : Reading) (p : Path) → stands_in t p ≡ true
      → stands_in (with_property_at q name value t) p ≡ true
  pub properties : (q : Path) (ps : List Property) (t : Reading) (p : Path) → stands_in t p ≡ true → stands_in (land_properties q ps t) p ≡ true
  pub nodes : (q : Path) (f : Forest) (t : Reading) (p : Path) → stands_in t p ≡ true → stands_in (land_nodes q f t) p ≡ true

-- no symbol that lands is a phandle: as a path of what a fragment brings it has more bytes
abbrev pub SymbolsArePlain : Type 0
SymbolsArePlain = (object : Reading) (sites : List Site) → IsValid object →
    AllByRecursion (λ (x : Property). IsPropertyName x.name × (x.name ≢ codes "phandle"))
    (landed_symbols object sites (properties_of (node_at object (codes "__symbols__" ∷ []))))

-- ---- no two nodes get one number

-- no landing has more than 64 names
abbrev pub AreShallow : Reading → List Site → Type 0
AreShallow object sites = (p q : Path) → stands_in object p ≡ true → landing sites p ≡ Some q → length q ≤ most_names

-- where an object may be applied, nothing but memory and the number of nodes is in the way of landing what its fragments bring
abbrev pub AllowedMayLand : Type 0
AllowedMayLand = (base object : Reading) (fixups : List (Name × Cell)) (w : Walked)
    → IsValid base → IsValid object → IsWithinLimits base → IsWithinLimits object → HasCells base
    → walk base object fixups nothing_walked (fragment_names object.children) ≡ Some w → may_land base object fixups w.sites ≡ true → AreShallow object w.sites
    → MayLandFragments base object (writes base object fixups (new_numbers base object w)) (new_numbers base object w) w.sites
