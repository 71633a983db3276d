use Rattle.dt_read.proofs.Wholes.{node_stands, properties_so}
use Rattle.dt_read.proofs.blob.Blob.props.Goals as goal

pub props-requires : goal.props-requires
props-requires c = node_stands _ c.args.self.now c.self.view_is c.self.invariant c.args.node c.requires

pub returns : goal.returns
returns c = λ path e. properties_so _ c.args.self.now c.self.view_is c.self.invariant path c.args.node e c.props.result c.props.ensures
