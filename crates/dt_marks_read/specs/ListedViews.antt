-- What the listed cells of the code stand for.
use Rattle.std.specs.Prelude.{ℕ, List, Result, Ok, Err}
use Rattle.std.specs.Borrow.{Bor}
use Rattle.dt_names.specs.declared.fault.Fault.{Fault}
use Rattle.dt_marks_read.specs.declared.listed.ListedCell as code
use Rattle.dt_marks_read.specs.Listed.{ListedCell, Fixup, LocalFixup}

-- a cell, without where its property's name lies in memory
abbrev pub listed_view : code.ListedCell → ListedCell
listed_view c = record { node = c.node; property = c.property.now; offset = c.offset }

-- a cell with its label, or a fault
abbrev pub fixup_view : Result (Bor (List ℕ) × code.ListedCell) Fault → Fixup
fixup_view (Ok found) = Ok (found.0.now, listed_view found.1)
fixup_view (Err fault) = Err fault

-- a cell, or a fault
abbrev pub local_view : Result code.ListedCell Fault → LocalFixup
local_view (Ok cell) = Ok (listed_view cell)
local_view (Err fault) = Err fault
