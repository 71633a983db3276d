use Rattle.std.proofs.Common.{◌∙◌, ap, Bool, cond, Some}
use Rattle.dt_flat.specs.Rows.{entry}
use Rattle.dt_flat.proofs.IndexLemmas.{row-flip}
use Rattle.dt_flat.proofs.keys.note.Goals as goal

pub returns-in_ok-insert-clause-ok : goal.returns-in_ok-insert-clause-ok
returns-in_ok-insert-clause-ok c h p k =
    c.in_ok-insert.ensures.updates.0 (p, k) ∙ ap (λ (b : Bool). cond b (Some c.args.place) (entry c.args.index.now.entries p k)) (row-flip p k c.args.row)
