use Rattle.std.proofs.Common.{List, ℕ, sym, subst}
use Rattle.dt_overlay_laws.specs.Objects.{HasCells}
use Rattle.dt_edit.specs.Editable.{reading_in, IsEditable}
use Rattle.dt_edit.proofs.Assembling.{edits_of}
use Rattle.dt_edit.proofs.target.BlobBufTarget.validity.Goals as goal

pub phandles_are_cells-requires : goal.phandles_are_cells-requires
phandles_are_cells-requires c = subst IsEditable (sym c.as_bytes.ensures) c.validity.ensures.editable

pub returns-clause-valid : goal.returns-clause-valid
returns-clause-valid c = (edits_of c.args.self.now c.validity.ensures.editable).valid

pub returns-clause-within : goal.returns-clause-within
returns-clause-within c = (edits_of c.args.self.now c.validity.ensures.editable).within

pub returns-clause-cells : goal.returns-clause-cells
returns-clause-cells c = subst (λ (b : List ℕ). HasCells (reading_in b)) c.as_bytes.ensures c.phandles_are_cells.ensures
