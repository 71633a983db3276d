-- Which trees a blob may hold (Devicetree Specification v0.4, chapters 2.2, 2.3.3 and 5).
use Rattle.std.specs.Prelude.{◌≡◌, ◌≢◌, ℕ, ◌+◌, ◌<◌, ◌≤◌, ◌^◌, List, [], ◌∷◌, ◌++◌, map, length, codes}
use Rattle.std.specs.List.{AllByRecursion}
use Rattle.std.specs.Option.{option_to_list}
use Rattle.std.specs.Int.{w32, from_be_bytes}
use Rattle.dt_model.specs.Limits.{most_names, most_nodes}
use Rattle.dt_model.specs.Names.{Name, IsNodeName, IsPropertyName}
use Rattle.dt_model.specs.Tree.{Property, Forest, no_nodes, branch, Reading, value_of}

-- no two are the same
abbrev pub AreDistinct : {X : Type 0} → List X → Type 0
AreDistinct [] = Unit {0}
AreDistinct (x ∷ xs) = AllByRecursion (λ y. y ≢ x) xs × AreDistinct xs

-- a node's properties: their names are names, and no two are the same
pub record AreProperties (ps : List Property) : Type 0 where
  pub named : AllByRecursion (λ p. IsPropertyName p.name) ps
  pub distinct : AreDistinct (map (λ p. p.name) ps)

-- the names of the siblings
abbrev pub names : Forest → List Name
names no_nodes = []
names (branch name properties children siblings) = name ∷ names siblings

-- the names of nodes are names, siblings differ in them, the properties are properties, and so at each node below
abbrev pub AreNodes : Forest → Type 0
AreNodes no_nodes = Unit {0}
AreNodes (branch name properties children siblings) =
    IsNodeName name × AreProperties properties × AreNodes children × AreDistinct (names children) × AreNodes siblings

-- the value of the property `phandle`, where it is there
abbrev pub phandle_values : List Property → List (List ℕ)
phandle_values ps = option_to_list (value_of ps (codes "phandle"))

-- those of all nodes, in preorder
abbrev pub phandles : Forest → List (List ℕ)
phandles no_nodes = []
phandles (branch name properties children siblings) = phandle_values properties ++ phandles children ++ phandles siblings

-- four bytes of a number from 1 to 0xfffffffe
pub record IsPhandle (value : List ℕ) : Type 0 where
  pub four : length value ≡ 4
  pub low : 1 ≤ from_be_bytes w32 value
  pub high : from_be_bytes w32 value ≤ 0xfffffffe

-- two 64-bit numbers, which aren't both zero: two zeros end the list (5.3)
pub record IsReservation (r : ℕ × ℕ) : Type 0 where
  pub some : ¬ ((r.0 ≡ 0) × (r.1 ≡ 0))
  pub address : r.0 < 2 ^ 64
  pub size : r.1 < 2 ^ 64

-- a tree that a blob may hold
pub record IsValid (t : Reading) : Type 0 where
  pub boot_cpu : t.boot_cpu < 2 ^ 32
  pub reservations : AllByRecursion IsReservation t.reservations
  pub properties : AreProperties t.properties
  pub nodes : AreNodes t.children
  pub siblings : AreDistinct (names t.children)
  pub phandles_valid : AllByRecursion IsPhandle (phandle_values t.properties ++ phandles t.children)
  pub phandles_distinct : AreDistinct (phandle_values t.properties ++ phandles t.children)

-- ---- limits of this project, which the format itself hasn't

-- how many nodes there are
abbrev pub node_count : Forest → ℕ
node_count no_nodes = 0
node_count (branch name properties children siblings) = 1 + node_count children + node_count siblings

-- siblings at a depth, and no node deeper than the limit
abbrev pub IsNoDeeper : ℕ → ℕ → Forest → Type 0
IsNoDeeper limit depth no_nodes = Unit {0}
IsNoDeeper limit depth (branch name properties children siblings) =
    (depth ≤ limit) × IsNoDeeper limit (depth + 1) children × IsNoDeeper limit depth siblings

-- at most 65,536 nodes, the root among them, and at most 64 names in a path
pub record IsWithinLimits (t : Reading) : Type 0 where
  pub count : 1 + node_count t.children ≤ most_nodes
  pub depth : IsNoDeeper most_names 1 t.children
