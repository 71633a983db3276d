-- What an overlay's object is seen as, while it is applied: its reading, the numbers to be written into its cells, and those that its nodes get.
use Rattle.std.specs.Prelude.{◌≡◌, ℕ, List, [], ◌++◌, map}
use Rattle.std.specs.List.{AllByRecursion, flat_map}
use Rattle.dt_model.specs.Path.{Path}
use Rattle.dt_model.specs.Tree.{Reading}
use Rattle.dt_model.specs.Merged.{Site}
use Rattle.dt_model.specs.Object.{fragment_names, local_cells, HasCell}
use Rattle.dt_model.specs.Applied.{Write, local_write}
use Rattle.dt_overlay_laws.specs.Objects.{symbols_in}
use Rattle.dt_overlay_object.specs.declared.object.Object.{Object}
use Rattle.dt_overlay_object.specs.Plans.{AreBroughtBy, AreFragmentsOf, AreSymbolsOf, AreWritesOf, IsUnbrought, symbol_brought}
use Rattle.dt_trees.specs.Placed.{PlacedTree, reading_of}

-- ---- what callers read

-- a reading, what is written into the cells of its own nodes' numbers and of labels, and the new numbers of nodes
pub record Seen : Type 0 where
  pub reading : Reading
  pub own : List Write
  pub labels : List Write
  pub numbers : List (Path × ℕ)

-- what its own numbers are, where its nodes have these
abbrev pub own_with : Seen → List (Path × ℕ) → List Write
own_with s numbers = map (local_write s.reading numbers) (local_cells s.reading)

-- the object's own numbers are written first
abbrev pub writes_of : Seen → List Write
writes_of s = s.own ++ s.labels

-- ---- the struct

-- nothing is read of this tree so far
pub record IsUnread {V : Type 0} (tree : V) (o : Object V) : Type 0 where
  pub is : o.tree.now ≡ tree
  pub fragments : o.fragments.items ≡ []
  pub own_writes : o.own_writes.items ≡ []
  pub label_writes : o.label_writes.items ≡ []
  pub symbols : o.symbols.items ≡ []
  pub brought : IsUnbrought o.brought

-- the object, whose tree is this, is seen as this
pub record IsSeenIn {V : Type 0} (t : PlacedTree) (o : Object V) (s : Seen) : Type 0 where
  pub reads : reading_of t ≡ s.reading
  pub fragments : AreFragmentsOf t o.fragments.items (fragment_names (reading_of t).children)
  pub own : AreWritesOf t o.own_writes.items s.own
  pub labels : AreWritesOf t o.label_writes.items s.labels
  pub own_there : AllByRecursion (λ (w : Write). HasCell (reading_of t) w.cell) s.own
  pub labels_there : AllByRecursion (λ (w : Write). HasCell (reading_of t) w.cell) s.labels
  pub symbols : AreSymbolsOf t o.symbols.items (flat_map (symbol_brought (reading_of t)) (symbols_in (reading_of t)))
  pub brought : AreBroughtBy t s.numbers o.brought

-- the object is seen as this, by what its view is seen as
abbrev pub IsSeenAs : {V : Type 0} → (V → PlacedTree) → Object V → Seen → Type 0
IsSeenAs tree o s = IsSeenIn (tree o.tree.now) o s

-- so is it, and its fragments have these sites
pub record IsToLandOn {V : Type 0} (tree : V → PlacedTree) (o : Object V) (s : Seen) (found : List Site) (sites : List Path) : Type 0 where
  pub seen : IsSeenAs tree o s
  pub named : map (λ (x : Site). x.fragment) found ≡ fragment_names s.reading.children
  pub at : sites ≡ map (λ (x : Site). x.at) found
