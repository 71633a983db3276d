use Rattle.std.proofs.Common.{sym, ap}
use Rattle.dt_irq.specs.Cells.{agree}
use Rattle.dt_irq.proofs.Figures.{next_figure}
use Rattle.dt_irq.proofs.rows.agree.Goals as goal

pub returns : goal.returns
returns c = ap (agree c.args.left c.args.right) (sym (next_figure c.args.mask.now c.args.index c.cell_at-bits.result c.cell_at-bits.ensures))
