-- The cells of an object that wait for labels, text by text and label by label.
use Rattle.std.specs.Prelude.{◌≡◌, ◌≢◌, ℕ, List, [], ◌∷◌, ◌++◌, map, None, codes}
use Rattle.std.specs.List.{AllByRecursion}
use Rattle.dt_model.specs.Names.{Name}
use Rattle.dt_model.specs.Tree.{Property, Reading, value_in}
use Rattle.dt_model.specs.Object.{Cell, AreFixups, HasCell}
use Rattle.dt_model.specs.Applied.{Write, label_write}
use Rattle.dt_trees.specs.Placed.{PlacedTree, reading_of}
use Rattle.dt_names.specs.declared.fault.FaultKind.{FaultKind}
use Rattle.dt_names.specs.declared.fault.FaultKind.TheVariants.{NoMemory, NoSymbol, BadSymbol}
use Rattle.dt_overlay_texts.specs.Texts.{TellCells}
use Rattle.dt_overlay_laws.specs.Objects.{AreCellsOf, SymbolHasNumber, IsFixup}
use Rattle.dt_overlay_object.specs.declared.kept.Write.{Write as KeptWrite}
use Rattle.dt_overlay_object.specs.Plans.{AreWritesOf}

-- a cell gets a number
abbrev pub numbered : ℕ → Cell → Write
numbered n c = record { cell = c; number = n }

-- the cells that the texts name are listed behind what was
pub record ListsTold (t : PlacedTree) (texts : List (List ℕ)) (n : ℕ) (old new : List KeptWrite) : Type 0 where
  pub more : List KeptWrite
  pub appended : new ≡ old ++ more
  pub cells : List Cell
  pub told : TellCells texts cells
  pub there : AllByRecursion (HasCell (reading_of t)) cells
  pub writes : AreWritesOf t more (map (numbered n) cells)

-- the cells whose texts the value is are
pub record ListsCells (t : PlacedTree) (value : List ℕ) (n : ℕ) (old new : List KeptWrite) : Type 0 where
  pub more : List KeptWrite
  pub appended : new ≡ old ++ more
  pub cells : List Cell
  pub listed : AreCellsOf (reading_of t) value cells
  pub writes : AreWritesOf t more (map (numbered n) cells)

-- the cells that wait for the labels of these properties are
pub record ListsLabels (base : Reading) (t : PlacedTree) (ps : List Property) (old new : List KeptWrite) : Type 0 where
  pub more : List KeptWrite
  pub appended : new ≡ old ++ more
  pub fixups : List (Name × Cell)
  pub listed : AreFixups ps fixups
  pub writes : AreWritesOf t more (map (label_write base) fixups)
  pub cells : AllByRecursion (λ (x : Name × Cell). HasCell (reading_of t) x.1) fixups
  pub well : AllByRecursion (IsFixup base (reading_of t)) ps

-- the base has no number for a label
abbrev pub WhyNoNumber : FaultKind → Reading → Name → Type 0
WhyNoNumber NoMemory base l = Unit {0}
WhyNoNumber NoSymbol base l = value_in base (codes "__symbols__" ∷ []) l ≡ None
WhyNoNumber BadSymbol base l = (value_in base (codes "__symbols__" ∷ []) l ≢ None) × ((n : ℕ) → ¬ SymbolHasNumber base l n)
WhyNoNumber _ base l = ⊥
