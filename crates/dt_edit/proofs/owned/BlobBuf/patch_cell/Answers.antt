use Rattle.std.proofs.Common.{ℕ, List, subst}
use Rattle.std.specs.Prelude.{IsOk}
use Rattle.dt_model.specs.Path.{Path}
use Rattle.dt_read.specs.Checked.{placed_of}
use Rattle.dt_trees.specs.Placed.{IsAt}
use Rattle.dt_edit.specs.Editable.{MayPatchIn}
use Rattle.dt_edit.specs.Plans.{IsPatched}
use Rattle.dt_edit.proofs.owned.BlobBuf.patch_cell.Goals as goal

pub returns-clause-places : goal.returns-clause-places
returns-clause-places c =
    subst (λ (b : List ℕ). IsOk c.patch_in.result → (path : Path) (place : ℕ) → IsAt (placed_of b) path place → IsAt (placed_of c.patch_in.new.bytes.items) path place) c.self.view_is c.patch_in.ensures.places

pub returns-clause-allowed : goal.returns-clause-allowed
returns-clause-allowed c = subst (λ (b : List ℕ). IsOk c.patch_in.result → MayPatchIn b c.args.node c.args.name.now c.args.offset c.args.number) c.self.view_is c.patch_in.ensures.allowed

pub returns-clause-cell : goal.returns-clause-cell
returns-clause-cell c =
    subst (λ (b : List ℕ). IsOk c.patch_in.result → IsPatched b c.patch_in.new.bytes.items c.args.node c.args.name.now c.args.offset c.args.number) c.self.view_is c.patch_in.ensures.cell
