use Rattle.std.proofs.Common.{◌∙◌, inl, inr, arith}
use Rattle.dt_irq.proofs.Listing.{no_cell_at}
use Rattle.dt_irq.proofs.sending.list_from.Goals.{else-at-eq0-via-then-at-eq0+else-at-cells, else-at-eq0-via-else-at-eq0}
use Rattle.dt_irq.proofs.sending.list_from.Goals as goal

pub returns-clause-cells : goal.returns-clause-cells
returns-clause-cells c =
    c.cells_after-2.ensures.cells
    ∙ no_cell_at c.args.list.now c.args.at (elim c.else-at-eq0.branch [
      | else-at-eq0-via-then-at-eq0+else-at-cells w ↦ inr (omega (arith, w.if-at-cells.false))
      | else-at-eq0-via-else-at-eq0 w ↦ inl w.if-at-eq0.false
    ])
