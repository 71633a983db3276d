use Rattle.std.proofs.Common.{◌∷◌, ◌++◌, [], sym, ◌∙◌}
use Rattle.dt_trees.specs.Placed.{path_at}
use Rattle.dt_trees.specs.Trees.{numbered_tree}
use Rattle.dt_trees.proofs.Numbers.{apart, within, reached, child_at}
use Rattle.dt_trees.proofs.Steps.{place_is_node}
use Rattle.dt_trees.proofs.flat.child_of.Goals as goal

pub child-requires : goal.child-requires
child-requires c = within c.args.tree.now c.validity.ensures.rooted c.args.node c.requires

pub returns-clause-is : goal.returns-clause-is
returns-clause-is c =
    let t = numbered_tree c.args.tree.now in
    c.child.ensures ∙ sym (child_at c.args.tree.now (path_at t c.args.node) c.args.node c.args.name.now (reached c.args.tree.now c.args.node c.requires))

pub returns-clause-node : goal.returns-clause-node
returns-clause-node c =
    let t = numbered_tree c.args.tree.now in
    place_is_node t (apart c.args.tree.now c.validity.ensures.rooted) (path_at t c.args.node ++ c.args.name.now ∷ []) c.child.result (returns-clause-is c)
