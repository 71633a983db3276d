use Rattle.dt_read.proofs.Wholes.{node_stands, child_so}
use Rattle.dt_read.proofs.blob.Blob.child.Goals as goal

pub child-requires : goal.child-requires
child-requires c = node_stands _ c.args.self.now c.self.view_is c.self.invariant c.args.node c.requires

pub returns : goal.returns
returns c = λ path e. child_so _ c.args.self.now c.self.view_is c.self.invariant path c.args.node e c.args.name.now _ c.child.ensures
