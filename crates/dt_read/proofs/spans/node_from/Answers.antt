use Rattle.std.proofs.Common.{arith}
use Rattle.dt_read.proofs.CheckedBytes.{IsThere, node_is_there, from_node}
use Rattle.dt_read.proofs.spans.node_from.Goals as goal

there : (c : goal.After-from-arg-1) → IsThere c.args.bytes.now c.blocks-blocks.result c.args.node
there c = node_is_there c.args.bytes.now c.blocks-blocks.result c.args.node (λ i. omega (arith, c.type_inv.bytes i)) c.blocks-blocks.ensures c.requires.blob c.requires.node

pub overflow_sub-node : goal.overflow_sub-node
overflow_sub-node c = (there c).place.behind

pub from-requires : goal.from-requires
from-requires c = (there c).place.within

pub returns : goal.returns
returns c =
    let there = node_is_there c.args.bytes.now c.blocks-blocks.result c.args.node (λ i. omega (arith, c.type_inv.bytes i)) c.blocks-blocks.ensures c.requires.blob c.requires.node in
    from_node c.args.bytes.now c.blocks-blocks.result c.args.node c.from.result.now c.blocks-blocks.ensures there c.from.ensures
