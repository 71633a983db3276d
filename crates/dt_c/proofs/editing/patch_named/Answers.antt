use Rattle.std.proofs.Common.{◌≡◌, List, ℕ, ap, sym, subst, ◌∙◌}
use Rattle.std.proofs.lemmas.Result.{on_ok_weaker}
use Rattle.dt_model.specs.Changes.{with_property_at}
use Rattle.dt_edit.specs.Editable.{reading_in, path_in, value_patched, HasCellAt}
use Rattle.dt_edit.specs.Plans.{IsPatched}
use Rattle.dt_c.proofs.editing.patch_named.Goals as goal

pub patch_cell-requires-clause-cell : goal.patch_cell-requires-clause-cell
patch_cell-requires-clause-cell c =
    subst (λ (n : List ℕ). HasCellAt c.args.bytes.now c.args.node n c.args.offset) c.as_bytes.ensures.value (c.has_cell.ensures.0 c.if-not-has_cell.false)

pub returns-clause-ok : goal.returns-clause-ok
returns-clause-ok c =
    let old = c.args.bytes.now in
    on_ok_weaker c.patch_cell.result
    (λ e. e ∙ ap (λ (n : List ℕ). with_property_at (path_in old c.args.node) n (value_patched old c.args.node n c.args.offset c.args.number) (reading_in old)) c.in_ok-name.ensures.value) c.patch_cell.ensures.ok

pub returns-clause-cell : goal.returns-clause-cell
returns-clause-cell c = λ ok.
    subst (λ (n : List ℕ). IsPatched c.args.bytes.now c.patch_cell.new.bytes c.args.node n c.args.offset c.args.number) c.in_ok-name.ensures.value (c.patch_cell.ensures.cell ok)
