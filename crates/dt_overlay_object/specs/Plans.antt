-- What the code keeps of an object while it is applied, and what that means.
use Rattle.std.specs.Prelude.{◌≡◌, ℕ, List, [], ◌∷◌, ◌++◌, map, slice_get, Option, Some, None, true, option_and_then, unwrap_or, if◌then◌else◌, codes}
use Rattle.std.specs.List.{AllByRecursion, flat_map}
use Rattle.dt_model.specs.Names.{Name}
use Rattle.dt_model.specs.Path.{Path}
use Rattle.dt_model.specs.Tree.{Property, Reading, stands_in, value_in, nodes_of}
use Rattle.dt_model.specs.Overlay.{content}
use Rattle.dt_model.specs.Object.{Cell, HasFixups, fragment_names, local_cells, HasCell}
use Rattle.dt_model.specs.Numbers.{number_in, is_brought}
use Rattle.dt_model.specs.Applied.{Write, label_write, local_write, node_named, node_numbered, number_at}
use Rattle.dt_trees.specs.Placed.{PlacedTree, reading_of, IsAt}
use Rattle.dt_overlay_base.specs.NodeNumbers.{at_node, IsNumbered}
use Rattle.dt_overlay_object.specs.declared.kept.ObjectFragment.{ObjectFragment}
use Rattle.dt_overlay_object.specs.declared.kept.ObjectTarget.{ObjectTarget}
use Rattle.dt_overlay_object.specs.declared.kept.ObjectTarget.TheVariants.{Number, Path as TargetPath}
use Rattle.dt_overlay_object.specs.declared.kept.Write.{Write as KeptWrite}
use Rattle.dt_overlay_object.specs.declared.brought.Brought.{Brought}
use Rattle.dt_overlay_object.specs.declared.kept.Symbol.{Symbol}
use Rattle.dt_overlay_texts.specs.Texts.{IsPathValue}
use Rattle.dt_overlay_laws.specs.Objects.{HoldsNumber, IsLocalCell, IsFixup, IsMirror, IsSymbol, fixups_in, symbols_in}

-- ---- fragments

-- what is kept of a fragment's target
abbrev pub IsTargetOf : Reading → Name → ObjectTarget → Type 0
IsTargetOf object f Number = HoldsNumber object f
IsTargetOf object f (TargetPath value) =
    (value_in object (f ∷ []) (codes "target") ≡ None) × (value_in object (f ∷ []) (codes "target-path") ≡ Some value.now)
    × ((p : Path) × IsPathValue value.now p)

-- a fragment of the tree is kept by its nodes, and by what it says of its target
pub record IsFragmentOf (t : PlacedTree) (x : ObjectFragment) (f : Name) : Type 0 where
  pub node : IsAt t (f ∷ []) x.node
  pub content : IsAt t (content f) x.content
  pub target : IsTargetOf (reading_of t) f x.target

abbrev pub AreFragmentsOf : PlacedTree → List ObjectFragment → List Name → Type 0
AreFragmentsOf t [] [] = Unit {0}
AreFragmentsOf t [] (f ∷ fs) = ⊥
AreFragmentsOf t (x ∷ xs) [] = ⊥
AreFragmentsOf t (x ∷ xs) (f ∷ fs) = IsFragmentOf t x f × AreFragmentsOf t xs fs

-- ---- cells

pub record IsWriteOf (t : PlacedTree) (x : KeptWrite) (w : Write) : Type 0 where
  pub node : IsAt t w.cell.path x.node
  pub property : x.property.now ≡ w.cell.property
  pub offset : x.offset ≡ w.cell.offset
  pub number : x.number ≡ w.number

abbrev pub AreWritesOf : PlacedTree → List KeptWrite → List Write → Type 0
AreWritesOf t [] [] = Unit {0}
AreWritesOf t [] (w ∷ ws) = ⊥
AreWritesOf t (x ∷ xs) [] = ⊥
AreWritesOf t (x ∷ xs) (w ∷ ws) = IsWriteOf t x w × AreWritesOf t xs ws

-- the number that a cell gets which holds this one: the number of the node that has it in the object, if it gets one
abbrev pub own_number : Reading → List (Path × ℕ) → ℕ → ℕ
own_number object numbers n = unwrap_or (option_and_then (number_in numbers) (node_numbered (nodes_of object) n)) n

abbrev pub renumbered : Reading → List (Path × ℕ) → KeptWrite → KeptWrite
renumbered object numbers w = record w { number = own_number object numbers w.number }

-- the cells that wait for labels are listed behind what was
pub record ListsFixups (base : Reading) (t : PlacedTree) (old new : List KeptWrite) : Type 0 where
  pub more : List KeptWrite
  pub appended : new ≡ old ++ more
  pub fixups : List (Name × Cell)
  pub listed : HasFixups (reading_of t) fixups
  pub writes : AreWritesOf t more (map (label_write base) fixups)
  pub cells : AllByRecursion (λ (x : Name × Cell). HasCell (reading_of t) x.1) fixups
  pub well : AllByRecursion (IsFixup base (reading_of t)) (fixups_in (reading_of t))

-- the cells of the object's own nodes are listed behind what was
pub record ListsLocalFixups (t : PlacedTree) (numbers : List (Path × ℕ)) (old new : List KeptWrite) : Type 0 where
  pub more : List KeptWrite
  pub appended : new ≡ old ++ more
  pub writes : AreWritesOf t more (map (local_write (reading_of t) numbers) (local_cells (reading_of t)))
  pub cells : AllByRecursion (HasCell (reading_of t)) (local_cells (reading_of t))
  pub well : (p : Path) → stands_in (reading_of t) (codes "__local_fixups__" ∷ p) ≡ true → IsMirror (reading_of t) p

-- ---- the nodes that are brought

-- the table has the contents of the fragments, each with its fragment's index
pub record AreContents (t : PlacedTree) (names : List Name) (entries : List (ℕ × ℕ)) : Type 0 where
  pub has : (k i : ℕ) → at_node entries k ≡ Some i → (f : Name) × (slice_get names i ≡ Some f) × IsAt t (content f) k
  pub found : (f : Name) (k i : ℕ) → slice_get names i ≡ Some f → IsAt t (content f) k → at_node entries k ≡ Some i

pub record AreBrought (t : PlacedTree) (names : List Name) (numbers : List (Path × ℕ)) (b : Brought) : Type 0 where
  pub contents : AreContents t names b.contents.entries
  pub numbered : (p : Path) → IsNumbered t numbers b.numbers.entries p

-- the nodes that the object's fragments bring have these numbers
abbrev pub AreBroughtBy : PlacedTree → List (Path × ℕ) → Brought → Type 0
AreBroughtBy t numbers b = AreBrought t (fragment_names (reading_of t).children) numbers b

-- the four bytes at an offset name a node, and the cell gets this number of it
pub record IsLocalNumber (object : Reading) (numbers : List (Path × ℕ)) (p : Path) (value : List ℕ) (offset number : ℕ) : Type 0 where
  pub cell : IsLocalCell object p value offset
  pub is : number ≡ own_number object numbers (number_at value offset)

-- nothing is brought so far
pub record IsUnbrought (b : Brought) : Type 0 where
  pub contents : b.contents.entries ≡ []
  pub numbers : b.numbers.entries ≡ []

-- ---- labels

-- a label is kept with its node
pub record IsSymbolOf (t : PlacedTree) (x : Symbol) (y : Name × Path) : Type 0 where
  pub label : x.label.now ≡ y.0
  pub node : IsAt t y.1 x.node

abbrev pub AreSymbolsOf : PlacedTree → List Symbol → List (Name × Path) → Type 0
AreSymbolsOf t [] [] = Unit {0}
AreSymbolsOf t [] (y ∷ ys) = ⊥
AreSymbolsOf t (x ∷ xs) [] = ⊥
AreSymbolsOf t (x ∷ xs) (y ∷ ys) = IsSymbolOf t x y × AreSymbolsOf t xs ys

-- the label of a node that a fragment brings, with the node's path
abbrev pub symbol_brought : Reading → Property → List (Name × Path)
symbol_brought object x = brought_only (node_named (nodes_of object) x.value)
  where
    brought_only : Option Path → List (Name × Path)
    brought_only None = []
    brought_only (Some p) = if is_brought (fragment_names object.children) p then (x.name, p) ∷ [] else []

pub record ListsSymbols (t : PlacedTree) (old new : List Symbol) : Type 0 where
  pub more : List Symbol
  pub appended : new ≡ old ++ more
  pub symbols : AreSymbolsOf t more (flat_map (symbol_brought (reading_of t)) (symbols_in (reading_of t)))
  pub well : AllByRecursion (λ (x : Property). IsSymbol (reading_of t) x.value) (symbols_in (reading_of t))
