use Rattle.std.proofs.Common.{arith}
use Rattle.dt_phandle.proofs.Asking.{asked_after}
use Rattle.dt_phandle.proofs.asked.asked_among.Goals as goal

pub returns : goal.returns
returns c =
    let asked = c.loop-node.asked in
    asked_after c.args.nodes.now asked.items c.deref_mut.result.now c.key_nodes.new.asked c.loop-node.node-index asked.len (omega arith) asked.ok.0
    c.deref_mut.ensures.value c.key_nodes.auto.asked c.loop-node.invariant c.key_nodes.ensures
