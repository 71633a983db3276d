use Rattle.std.proofs.Common.{ap, length, List, arith}
use Rattle.dt_flat.specs.declared.nodes.Branch.{Branch}
use Rattle.dt_flat.proofs.TableLemmas.{length-branches}
use Rattle.dt_flat.proofs.nodes.NodeTable.len.Goals as goal

pub returns-clause-len : goal.returns-clause-len
returns-clause-len c =
    omega (arith, c.len.ensures, c.self.invariant, length-branches c.self.inside.rows c.self.inside.depths.items c.self.invariant, ap (λ (bs : List Branch). length bs) c.self.view_is)
