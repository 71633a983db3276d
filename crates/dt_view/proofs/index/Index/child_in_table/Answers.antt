use Rattle.std.proofs.Common.{subst, ◌∙◌, ◌∷◌, ◌++◌, []}
use Rattle.dt_model.specs.Tree.{nodes_of}
use Rattle.dt_trees.specs.Placed.{PlacedTree, reading_of, path_at, HasPlacesApart}
use Rattle.dt_view.specs.Tables.{AreChildren}
use Rattle.dt_view.proofs.Children.{child_looked_up}
use Rattle.dt_trees.proofs.Steps.{place_is_node}
use Rattle.dt_view.proofs.index.Index.child_in_table.Goals as goal

pub returns-in-Some-clause-is : goal.returns-in-Some-clause-is
returns-in-Some-clause-is c =
    let entries = c.in-Some.children.entries in
    let below = rw c.in-Some.is at c.self.invariant.below in
    let are = subst (λ (t : PlacedTree). AreChildren t (nodes_of (reading_of t)) entries) c.self.view_is below in
    c.copied.ensures ∙ c.get.ensures.value ∙ child_looked_up c.args.self.now entries c.args.node c.args.name.now c.requires are

pub returns-in-Some-clause-node : goal.returns-in-Some-clause-node
returns-in-Some-clause-node c =
    let t = c.args.self.now in
    let entries = c.in-Some.children.entries in
    let below = rw c.in-Some.is at c.self.invariant.below in
    let are = subst (λ (t : PlacedTree). AreChildren t (nodes_of (reading_of t)) entries) c.self.view_is below in
    let places = subst HasPlacesApart c.self.view_is c.validity.ensures.places in
    place_is_node t places (path_at t c.args.node ++ c.args.name.now ∷ []) c.copied.result (c.copied.ensures ∙ c.get.ensures.value ∙ child_looked_up t entries c.args.node c.args.name.now c.requires are)
