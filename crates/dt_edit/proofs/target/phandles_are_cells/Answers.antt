use Rattle.std.proofs.Common.{arith}
use Rattle.dt_edit.proofs.PhandleBytes.{cells_in}
use Rattle.dt_edit.proofs.target.phandles_are_cells.Goals as goal

pub returns : goal.returns
returns c = cells_in c.args.bytes.now c.requires (λ i. omega (arith, c.type_inv.bytes i))
