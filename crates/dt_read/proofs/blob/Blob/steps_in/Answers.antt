use Rattle.dt_read.proofs.Wholes.{node_stands, steps_so}
use Rattle.dt_read.proofs.blob.Blob.steps_in.Goals as goal

pub steps_in-requires : goal.steps_in-requires
steps_in-requires c = node_stands _ c.args.self.now c.self.view_is c.self.invariant c.args.node c.requires

pub returns : goal.returns
returns c = λ path e. steps_so _ c.args.self.now c.self.view_is c.self.invariant path c.args.node e c.steps_in.result c.steps_in.ensures
