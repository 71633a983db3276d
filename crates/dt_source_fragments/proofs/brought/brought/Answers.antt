use Rattle.std.proofs.Common.{map, ap, ◌∙◌, arith}
use Rattle.std.proofs.lemmas.List.{length-map}
use Rattle.dt_model_laws.specs.OverlayChecks.{is_brought}
use Rattle.dt_source_named_tree.specs.Said.{node_said}
use Rattle.dt_source_fragments.proofs.FragmentSteps.{node_there}
use Rattle.dt_source_fragments.proofs.Marks.{one_more_marked, all_marked}
use Rattle.dt_source_fragments.proofs.brought.brought.Goals as goal

pub loop-node-preserved : goal.loop-node-preserved
loop-node-preserved c =
    one_more_marked (map node_said c.args.nodes.now) c.loop-node.marks.items c.push.new.self.items c.is_brought-mark.result c.loop-node.node-index (node_said c.node-item.result)
    c.requires c.loop-node.invariant (node_there c.args.nodes.now c.loop-node.node-index c.node-item.result c.loop-node-test.true c.node-item.is)
    (c.is_brought-mark.ensures ∙ ap (λ ms. is_brought (map node_said c.args.nodes.now) ms (node_said c.node-item.result)) c.deref.ensures.value) c.in_ok-push.ensures.items

pub returns : goal.returns
returns c =
    all_marked (map node_said c.args.nodes.now) c.loop-node.marks.items c.loop-node.node-index c.loop-node.invariant
    (let l = length-map c.args.nodes.now node_said in omega (arith, l, c.loop-node-test.false, c.loop-node.auto))
