-- The cells of an object that texts name.
use Rattle.std.specs.Prelude.{List, ℕ}
use Rattle.dt_model.specs.Object.{Cell, IsCellText, HasCell}
use Rattle.dt_model.specs.Tree.{Reading}
use Rattle.dt_overlay_texts.specs.declared.reading.CellText.{CellText}

-- the cell that a text names
abbrev pub cell_told : CellText → Cell
cell_told x = record { path = x.path; property = x.property.now; offset = x.offset }

-- the object has the cell that the text names
abbrev pub HasTold : Reading → List ℕ → Cell → Type 0
HasTold object text c = IsCellText text c × HasCell object c
