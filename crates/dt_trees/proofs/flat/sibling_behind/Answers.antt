use Rattle.dt_trees.specs.Placed.{path_at}
use Rattle.dt_trees.specs.Trees.{numbered_tree}
use Rattle.dt_trees.proofs.Numbers.{apart, within, sibling_at}
use Rattle.dt_trees.proofs.Steps.{sibling_is_node}
use Rattle.dt_trees.proofs.flat.sibling_behind.Goals as goal

pub next_sibling-requires : goal.next_sibling-requires
next_sibling-requires c = within c.args.tree.now c.validity.ensures.rooted c.args.node c.requires

pub returns-clause-is : goal.returns-clause-is
returns-clause-is c =
    let v = c.validity.ensures in
    sibling_at c.args.tree.now v.rooted v.siblings c.args.node c.next_sibling.result c.requires c.next_sibling.ensures.root c.next_sibling.ensures.below

pub returns-clause-node : goal.returns-clause-node
returns-clause-node c =
    let t = numbered_tree c.args.tree.now in
    sibling_is_node t (apart c.args.tree.now c.validity.ensures.rooted) (path_at t c.args.node) c.next_sibling.result (returns-clause-is c)
