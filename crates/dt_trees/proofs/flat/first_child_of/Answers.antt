use Rattle.std.proofs.Common.{ap, ◌∙◌}
use Rattle.dt_trees.specs.Placed.{path_at, child_names}
use Rattle.dt_trees.specs.Trees.{numbered_tree}
use Rattle.dt_trees.proofs.Numbers.{apart, within, first_child_at, first_of_numbers}
use Rattle.dt_trees.proofs.Steps.{first, first_given, first_is_node}
use Rattle.dt_trees.proofs.flat.first_child_of.Goals as goal

pub children-requires : goal.children-requires
children-requires c = within c.args.tree.now c.validity.ensures.rooted c.args.node c.requires

pub returns-clause-is : goal.returns-clause-is
returns-clause-is c =
    let a = c.args.tree.now in
    first_given c.children.result c.next.new.self c.next.result c.next.ensures.steps
    ∙ ap first c.children.ensures.rest ∙ first_of_numbers a c.args.node ∙ first_child_at a c.args.node c.requires

pub returns-clause-node : goal.returns-clause-node
returns-clause-node c =
    let t = numbered_tree c.args.tree.now in
    first_is_node t (apart c.args.tree.now c.validity.ensures.rooted) (path_at t c.args.node) (child_names t (path_at t c.args.node)) c.next.result (returns-clause-is c)
