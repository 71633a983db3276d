use Rattle.std.proofs.Common.{map, sym, ◌∙◌, arith}
use Rattle.std.proofs.lemmas.List.{length-map}
use Rattle.dt_source_named_tree.specs.Said.{node_said}
use Rattle.dt_source_fragments.proofs.FragmentSteps.{node_there}
use Rattle.dt_source_fragments.proofs.Marks.{one_more_contained, not_contained, all_contained}
use Rattle.dt_source_fragments.proofs.brought.are_contained.Goals as goal

pub returns-then-not-is_contained-clause-not : goal.returns-then-not-is_contained-clause-not
returns-then-not-is_contained-clause-not c = λ e.
    let w = not_contained c.args.marks.now c.loop-number.number (node_said c.index-nodes-number.result) (sym c.is_contained.ensures ∙ c.if-not-is_contained.true) in
    (c.loop-number.number, node_said c.index-nodes-number.result, node_there c.args.nodes.now c.loop-number.number c.index-nodes-number.result c.loop-number-test.true c.index-nodes-number.is, w.0, w.1)

pub loop-number-preserved : goal.loop-number-preserved
loop-number-preserved c =
    one_more_contained (map node_said c.args.nodes.now) c.args.marks.now c.loop-number.number (node_said c.index-nodes-number.result)
    (node_there c.args.nodes.now c.loop-number.number c.index-nodes-number.result c.loop-number-test.true c.index-nodes-number.is) (sym c.is_contained.ensures ∙ c.if-not-is_contained.false) c.loop-number.invariant

pub returns-clause-all : goal.returns-clause-all
returns-clause-all c = λ e.
    all_contained (map node_said c.args.nodes.now) c.args.marks.now c.loop-number.number c.loop-number.invariant (let l = length-map c.args.nodes.now node_said in omega (arith, l, c.loop-number-test.false))
