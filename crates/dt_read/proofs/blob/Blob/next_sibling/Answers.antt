use Rattle.dt_read.proofs.Behind.{behind_so, none_behind_root}
use Rattle.dt_read.proofs.Wholes.{node_stands}
use Rattle.dt_read.proofs.blob.Blob.next_sibling.Goals as goal

pub next_sibling-requires : goal.next_sibling-requires
next_sibling-requires c = node_stands _ c.args.self.now c.self.view_is c.self.invariant c.args.node c.requires

pub returns-clause-root : goal.returns-clause-root
returns-clause-root c = λ e. none_behind_root _ c.args.self.now c.self.view_is c.self.invariant c.args.node e _ c.next_sibling.ensures

pub returns-clause-below : goal.returns-clause-below
returns-clause-below c = λ path name e. behind_so _ c.args.self.now c.self.view_is c.self.invariant path name c.args.node e _ c.next_sibling.ensures
