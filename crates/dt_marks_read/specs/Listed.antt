-- What an object's `__fixups__` and `__local_fixups__` list, cell by cell, up to the first that is off (dtc's notes on overlay
-- objects).
use Rattle.std.specs.Prelude.{◌≡◌, ◌≢◌, ◌⊎◌, ℕ, ◌+◌, ◌<◌, ◌≤◌, ◌%◌, false, List, [], ◌∷◌, length, Some, Result, Ok, Err, codes}
use Rattle.dt_model.specs.Names.{Name}
use Rattle.dt_model.specs.Path.{Path}
use Rattle.dt_model.specs.Tree.{Property, Placed, node_at, stands_in, value_in}
use Rattle.dt_model.specs.Object.{Cell, IsCellText, words_of, nodes_from, properties_of, HasCell}
use Rattle.dt_names.specs.Fault.{placeless}
use Rattle.dt_names.specs.declared.fault.Fault.{Fault}
use Rattle.dt_names.specs.declared.fault.FaultKind.TheVariants.{BadFixup, BadLocalFixup}
use Rattle.dt_trees.specs.Placed.{PlacedTree, reading_of, IsAt}
use Rattle.dt_overlay_texts.specs.Texts.{AreTexts}

-- a cell that is listed: the place of its node, its property, its offset
pub record ListedCell : Type 0 where
  pub node : ℕ
  pub property : Name
  pub offset : ℕ

-- the object has the cell, and this is it
pub record IsListed (t : PlacedTree) (c : Cell) (x : ListedCell) : Type 0 where
  pub there : HasCell (reading_of t) c
  pub node : IsAt t c.path x.node
  pub property : x.property ≡ c.property
  pub offset : x.offset ≡ c.offset

-- ---- `__fixups__`

-- a cell that waits for a label, or that the list is off
abbrev pub Fixup : Type 0
Fixup = Result (Name × ListedCell) Fault

-- what is listed for a label's texts, and then more
abbrev pub AreTold : PlacedTree → Name → List (List ℕ) → (List Fixup → Type 0) → List Fixup → Type 0
AreTold t label [] more told = more told
AreTold t label (text ∷ texts) more told =
    ((c : Cell) × (x : ListedCell) × (rest : List Fixup) × (told ≡ Ok (label, x) ∷ rest) × IsCellText text c × IsListed t c x × AreTold t label texts more rest)
    ⊎ (((c : Cell) → IsCellText text c → ¬ HasCell (reading_of t) c) × (told ≡ Err (placeless BadFixup) ∷ []))

-- what is listed for properties: each is one or more texts of cells
abbrev pub AreFixups : PlacedTree → List Property → List Fixup → Type 0
AreFixups t [] told = told ≡ []
AreFixups t (p ∷ ps) told =
    ((texts : List (List ℕ)) × AreTexts p.value texts × (texts ≢ []) × AreTold t p.name texts (AreFixups t ps) told)
    ⊎ (((texts : List (List ℕ)) → texts ≢ [] → ¬ AreTexts p.value texts) × (told ≡ Err (placeless BadFixup) ∷ []))

-- of all of them
abbrev pub AreFixupsOf : PlacedTree → List Fixup → Type 0
AreFixupsOf t told = AreFixups t (properties_of (node_at (reading_of t) (codes "__fixups__" ∷ []))) told

-- ---- `__local_fixups__`

-- a cell that holds the number of a node of the object, or that the list is off
abbrev pub LocalFixup : Type 0
LocalFixup = Result ListedCell Fault

-- what is listed for some offsets of a value, and then more
abbrev pub AreOffsets : ℕ → Name → List ℕ → List ℕ → (List LocalFixup → Type 0) → List LocalFixup → Type 0
AreOffsets node property value [] more told = more told
AreOffsets node property value (offset ∷ offsets) more told =
    ((offset + 4 ≤ length value) × (rest : List LocalFixup) × (told ≡ Ok (record { node = node; property = property; offset = offset }) ∷ rest)
    × AreOffsets node property value offsets more rest)
    ⊎ ((length value < offset + 4) × (told ≡ Err (placeless BadLocalFixup) ∷ []))

-- the property's value is whole numbers, and its node's counterpart has one of that name
abbrev pub HasCounterpart : PlacedTree → Path → Property → Type 0
HasCounterpart t p x = (value : List ℕ) × (value_in (reading_of t) p x.name ≡ Some value) × (length x.value % 4 ≡ 0)

-- what is listed for the properties of a node's mirror, and then more
abbrev pub AreLocalProperties : PlacedTree → Path → ℕ → List Property → (List LocalFixup → Type 0) → List LocalFixup → Type 0
AreLocalProperties t p node [] more told = more told
AreLocalProperties t p node (x ∷ xs) more told =
    ((c : HasCounterpart t p x) × AreOffsets node x.name c.0 (words_of x.value) (AreLocalProperties t p node xs more) told)
    ⊎ ((¬ HasCounterpart t p x) × (told ≡ Err (placeless BadLocalFixup) ∷ []))

-- what is listed for mirrors: each has its counterpart
abbrev pub AreLocalNodes : PlacedTree → List Placed → List LocalFixup → Type 0
AreLocalNodes t [] told = told ≡ []
AreLocalNodes t (n ∷ ns) told =
    ((node : ℕ) × IsAt t n.path node × AreLocalProperties t n.path node n.properties (AreLocalNodes t ns) told)
    ⊎ ((stands_in (reading_of t) n.path ≡ false) × (told ≡ Err (placeless BadLocalFixup) ∷ []))

-- of all of them, in preorder
abbrev pub AreLocalFixupsOf : PlacedTree → List LocalFixup → Type 0
AreLocalFixupsOf t told = AreLocalNodes t (nodes_from (node_at (reading_of t) (codes "__local_fixups__" ∷ []))) told

-- ---- one list

-- what an object lists is one list
abbrev pub FixupsAreOne : Type 0
FixupsAreOne = (t : PlacedTree) (told other : List Fixup) → AreFixupsOf t told → AreFixupsOf t other → told ≡ other

abbrev pub LocalFixupsAreOne : Type 0
LocalFixupsAreOne = (t : PlacedTree) (told other : List LocalFixup) → AreLocalFixupsOf t told → AreLocalFixupsOf t other → told ≡ other
