use Rattle.std.proofs.Common.{◌≡◌, List, ℕ, sym, subst}
use Rattle.dt_model.specs.Meaning.{cell}
use Rattle.dt_overlay_base.specs.Targets.{MaySetAt}
use Rattle.dt_edit.specs.Editable.{reading_in, path_in}
use Rattle.dt_edit.proofs.CellsPatched.{may_patch_as}
use Rattle.dt_edit.proofs.NumbersOwned.{blob_valid}
use Rattle.dt_edit.proofs.cells.may_patch.Goals as goal

pub returns : goal.returns
returns c = λ offset has.
    let bytes = c.args.bytes.now in
    let both = may_patch_as bytes c.args.node c.args.name.now offset c.args.number (blob_valid bytes c.requires.blob) has in
    let same : c.to_be_bytes.result ≡ cell c.args.number = c.to_be_bytes.ensures in
    let may : List ℕ → Type 0 = λ value. MaySetAt (reading_in bytes) (path_in bytes c.args.node) c.args.name.now value in
    (λ h. both.0 (subst may same (c.may_set.ensures.0 h)), λ h. c.may_set.ensures.1 (subst may (sym same) (both.1 h)))
