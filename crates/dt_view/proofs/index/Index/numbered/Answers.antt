use Rattle.std.proofs.Common.{subst, ◌∙◌, arith}
use Rattle.dt_model.specs.Tree.{nodes_of}
use Rattle.dt_model.specs.Valid.{IsValid}
use Rattle.dt_trees.specs.Placed.{reading_of, HasPlacesApart}
use Rattle.dt_view.specs.Tables.{ArePhandles}
use Rattle.dt_view.proofs.Indexed.{in_tables}
use Rattle.dt_trees.proofs.LookedUp.{looked_up, looked_up_node}
use Rattle.dt_view.proofs.index.Index.numbered.Goals as goal

pub returns-clause-finds : goal.returns-clause-finds
returns-clause-finds c =
    let entries = c.self.inside.phandles.entries in
    let are = subst (λ t. ArePhandles t (nodes_of (reading_of t)) entries) c.self.view_is c.self.invariant.numbered in
    let valid = subst (λ t. IsValid (reading_of t)) c.self.view_is c.validity.ensures.valid in
    let places = subst HasPlacesApart c.self.view_is c.validity.ensures.places in
    looked_up c.args.self.now c.args.number c.copied.result valid places (in_tables c.args.self.now entries c.args.number c.copied.result (omega arith) are (c.copied.ensures ∙ c.get.ensures.value))

pub returns-clause-node : goal.returns-clause-node
returns-clause-node c =
    let entries = c.self.inside.phandles.entries in
    let are = subst (λ t. ArePhandles t (nodes_of (reading_of t)) entries) c.self.view_is c.self.invariant.numbered in
    looked_up_node c.args.self.now c.args.number c.copied.result (in_tables c.args.self.now entries c.args.number c.copied.result (omega arith) are (c.copied.ensures ∙ c.get.ensures.value))
