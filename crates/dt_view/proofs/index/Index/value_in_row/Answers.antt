use Rattle.std.proofs.Common.{List, map, subst, ap, ◌∙◌}
use Rattle.std.specs.List.{between}
use Rattle.dt_model.specs.Tree.{nodes_of, value_of}
use Rattle.dt_trees.specs.Placed.{reading_of}
use Rattle.dt_view.specs.declared.tables.Asked.{Asked}
use Rattle.dt_view.specs.Tables.{asked_said, AreValues}
use Rattle.dt_view.proofs.Valued.{row_is, row_is_there, value_in_row}
use Rattle.dt_view.proofs.index.Index.value_in_row.Goals as goal

pub returns-in_err-row : goal.returns-in_err-row
returns-in_err-row c =
    let entries = c.self.inside.rows.entries in
    let values = c.self.inside.values.items in
    absurd (row_is_there c.args.self.now values entries c.args.node (subst (λ t. AreValues t (nodes_of (reading_of t)) values entries) c.self.view_is c.self.invariant.valued) c.requires.node c.in_err-row.ensures.value)

pub value_in_row-requires : goal.value_in_row-requires
value_in_row-requires c =
    let entries = c.self.inside.rows.entries in
    let values = c.self.inside.values.items in
    let has = row_is c.args.self.now values entries c.args.node c.in_ok-row.row.now (subst (λ t. AreValues t (nodes_of (reading_of t)) values entries) c.self.view_is c.self.invariant.valued) c.requires.node c.in_ok-row.ensures.value in
    (has.ordered, rw c.deref.ensures.value has.within)

pub returns : goal.returns
returns c =
    let entries = c.self.inside.rows.entries in
    let values = c.self.inside.values.items in
    let row = c.in_ok-row.row.now in
    let has = row_is c.args.self.now values entries c.args.node c.in_ok-row.row.now (subst (λ t. AreValues t (nodes_of (reading_of t)) values entries) c.self.view_is c.self.invariant.valued) c.requires.node c.in_ok-row.ensures.value in
    c.value_in_row.ensures
    ∙ ap (λ (vs : List Asked). value_of (map asked_said (between row.first row.behind vs)) c.args.name.now) c.deref.ensures.value
    ∙ value_in_row c.args.self.now values c.args.node row c.args.name.now c.requires.whole has
