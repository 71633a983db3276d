use Rattle.std.proofs.Common.{map, Some, ap, ◌∙◌}
use Rattle.dt_read.proofs.Wholes.{node_stands, children_so}
use Rattle.dt_read.proofs.blob.Blob.children.Goals as goal

pub siblings-requires : goal.siblings-requires
siblings-requires c = node_stands _ c.args.self.now c.self.view_is c.self.invariant c.args.node c.requires

pub returns : goal.returns
returns c = λ path e. ap (λ ns. map (λ n. Some n) ns) c.new.ensures ∙ children_so _ c.args.self.now c.self.view_is c.self.invariant path c.args.node e c.siblings.result c.siblings.ensures
