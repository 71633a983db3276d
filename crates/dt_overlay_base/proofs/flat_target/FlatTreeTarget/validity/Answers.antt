use Rattle.dt_overlay_base.proofs.Reached.{cells-led}
use Rattle.dt_overlay_base.proofs.flat_target.FlatTreeTarget.validity.Goals as goal

pub returns-clause-cells : goal.returns-clause-cells
returns-clause-cells c = cells-led c.args.self.now c.validity.ensures.cells
