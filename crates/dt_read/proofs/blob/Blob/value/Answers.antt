use Rattle.dt_read.proofs.Wholes.{node_stands, value_so}
use Rattle.dt_read.proofs.blob.Blob.value.Goals as goal

pub value-requires : goal.value-requires
value-requires c = node_stands _ c.args.self.now c.self.view_is c.self.invariant c.args.node c.requires

pub returns : goal.returns
returns c = λ path e. value_so _ c.args.self.now c.self.view_is c.self.invariant path c.args.node e c.args.name.now _ c.value.ensures
