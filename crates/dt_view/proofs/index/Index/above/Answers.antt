use Rattle.std.proofs.Common.{subst}
use Rattle.dt_model.specs.Tree.{nodes_of}
use Rattle.dt_trees.specs.Placed.{reading_of}
use Rattle.dt_view.specs.Tables.{AreParents}
use Rattle.dt_view.proofs.Indexed.{above_is, above_is_there}
use Rattle.dt_view.proofs.index.Index.above.Goals as goal

pub returns-in_err-get : goal.returns-in_err-get
returns-in_err-get c =
    let entries = c.self.inside.rows.entries in
    absurd (above_is_there c.args.self.now entries c.args.node (subst (λ t. AreParents t (nodes_of (reading_of t)) entries) c.self.view_is c.self.invariant.above) c.requires c.in_err-get.ensures.value)

pub returns : goal.returns
returns c =
    let entries = c.self.inside.rows.entries in
    above_is c.args.self.now entries c.args.node c.in_ok-get.field-0.now (subst (λ t. AreParents t (nodes_of (reading_of t)) entries) c.self.view_is c.self.invariant.above) c.requires c.in_ok-get.ensures.value
