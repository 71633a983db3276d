use Rattle.std.proofs.Common.{◌<◌, subst, length}
use Rattle.std.specs.Prelude.{IfSome}
use Rattle.dt_flat.specs.Arena.{Arena}
use Rattle.dt_flat.proofs.Numbering.{found-within}
use Rattle.dt_flat.proofs.tree.FlatTree.by_phandle.Goals as goal

pub returns-clause-there : goal.returns-clause-there
returns-clause-there c =
    subst (λ (a : Arena). IfSome c.holder.result (λ i. i < length a.slots)) c.self.view_is (found-within c.self.inside.places c.self.inside.phandles c.args.number c.holder.result c.self.invariant.numbered c.holder.ensures)
