use Rattle.std.proofs.Common.{◌*◌, ap, ◌∙◌}
use Rattle.std.proofs.lemmas.List.{take_rest}
use Rattle.dt_resolve_model.specs.World.{quads_of}
use Rattle.dt_resolve_model.proofs.QuadsOfBytes.{quads_drop}
use Rattle.dt_view.proofs.values.cells_after.Goals as goal

pub returns-clause-cells : goal.returns-clause-cells
returns-clause-cells c = ap quads_of (take_rest c.args.bytes.now (4 * c.args.cells)) ∙ quads_drop c.args.cells c.args.bytes.now
