use Rattle.std.proofs.Common.{subst, ◌∙◌}
use Rattle.dt_trees.proofs.Steps.{IsOnTheWay, on_the_way, one_step, no_step}
use Rattle.dt_trees.proofs.finding.node_of.Goals as goal

pub child-requires : goal.child-requires
child-requires g c = on_the_way (g.V.TreeView.tree c.args.view.now) c.args.path.now c.loop-name.node c.loop-name.name-iterator c.validity.ensures.places c.loop-name.invariant.2

pub returns-in_err-node-clause-is : goal.returns-in_err-node-clause-is
returns-in_err-node-clause-is g c =
    let t = g.V.TreeView.tree c.args.view.now in
    let way = subst (IsOnTheWay t c.args.path.now c.loop-name.node) c.in-Some.ensures.steps c.loop-name.invariant.2 in
    c.from_residual.ensures ∙ no_step t c.args.path.now c.loop-name.node c.in-Some.name.now c.next.new.self c.validity.ensures.places way c.in_err-node.ensures.is

pub loop-name-preserved : goal.loop-name-preserved
loop-name-preserved g c =
    let t = g.V.TreeView.tree c.args.view.now in
    let way = subst (IsOnTheWay t c.args.path.now c.loop-name.node) c.in-Some.ensures.steps c.loop-name.invariant.2 in
    (tt, tt, one_step t c.args.path.now c.loop-name.node c.in-Some.name.now c.next.new.self c.in_ok-node.node c.validity.ensures.places way c.in_ok-node.ensures.is)

pub returns-clause-node : goal.returns-clause-node
returns-clause-node g c = on_the_way (g.V.TreeView.tree c.args.view.now) c.args.path.now c.loop-name.node c.loop-name.name-iterator c.validity.ensures.places c.loop-name.invariant.2
