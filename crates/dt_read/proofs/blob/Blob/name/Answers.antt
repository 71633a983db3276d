use Rattle.dt_read.proofs.Wholes.{node_stands, named_so}
use Rattle.dt_read.proofs.blob.Blob.name.Goals as goal

pub name-requires : goal.name-requires
name-requires c = node_stands _ c.args.self.now c.self.view_is c.self.invariant c.args.node c.requires

pub returns : goal.returns
returns c = λ path e. named_so _ c.args.self.now c.self.view_is c.self.invariant path c.args.node e c.name.result.now c.name.ensures
