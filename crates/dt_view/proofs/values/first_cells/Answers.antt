use Rattle.dt_resolve_model.proofs.QuadsOfBytes.{quads_take}
use Rattle.dt_view.proofs.values.first_cells.Goals as goal

pub returns-clause-cells : goal.returns-clause-cells
returns-clause-cells c = quads_take c.args.cells c.args.bytes.now
