use Rattle.std.proofs.Common.{◌≡◌, ◌∙◌, ℕ, List, [], ◌∷◌, refl}
use Rattle.std.specs.List.{slice_get}
use Rattle.dt_trees.specs.Placed.{path_at, child_names}
use Rattle.dt_trees.proofs.Steps.{first, first_child_is, first_is_node}
use Rattle.dt_read.proofs.tree_view.first_child_of.Goals as goal

first_at : (children : List ℕ) → slice_get children 0 ≡ first children
first_at [] = refl
first_at (k ∷ children) = refl

pub returns-clause-is : goal.returns-clause-is
returns-clause-is c =
    let t = c.args.blob.now in
    let p = path_at t c.args.node in
    c.first.ensures ∙ first_at c.children.result ∙ first_child_is t p c.children.result (child_names t p) (c.children.ensures p c.requires)

pub returns-clause-node : goal.returns-clause-node
returns-clause-node c = first_is_node c.args.blob.now c.validity.ensures.places (path_at c.args.blob.now c.args.node) (child_names c.args.blob.now (path_at c.args.blob.now c.args.node)) c.first.result (returns-clause-is c)
