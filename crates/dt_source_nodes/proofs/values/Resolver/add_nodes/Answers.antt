use Rattle.std.proofs.Common.{◌≡◌, List, map, take, get_or, subst}
use Rattle.std.proofs.lemmas.Result.{err_from_is_err_and}
use Rattle.std.proofs.lemmas.List.{take_all}
use Rattle.dt_source_nodes.specs.declared.listing.Row.{Row}
use Rattle.dt_source_nodes.specs.Owned.{group_of}
use Rattle.dt_source_named_tree.specs.Said.{node_said}
use Rattle.dt_source_nodes.specs.Resolving.{EachNaming, AreRowsRead}
use Rattle.dt_source_nodes.proofs.ContentSteps.{rows_more, unread_row, unread_for_memory}
use Rattle.dt_source_nodes.proofs.values.Resolver.add_nodes.Goals as goal

pub returns-in_err-node : goal.returns-in_err-node
returns-in_err-node c =
    let e = err_from_is_err_and c.from_residual.result c.from_residual.ensures.1 in
    rw (e.1, e.2) (unread_row c.args.self.now.unnamed c.args.self.now.growing.now c.args.self.now.belongings.now c.args.rows.now c.loop-row.row-index (record { node = 0; parent = 0 }) c.in_err-node.field-0.0 c.loop-row-test.true c.in_err-node.ensures)

pub returns-in_err-push : goal.returns-in_err-push
returns-in_err-push c =
    let e = err_from_is_err_and c.from_residual-in_err-push.result c.from_residual-in_err-push.ensures.1 in
    let g = c.args.self.now.growing.now in
    let b = c.args.self.now.belongings.now in
    let rows = c.args.rows.now in
    let k = c.loop-row.row-index in
    let d : Row = record { node = 0; parent = 0 } in
    rw e.1 (unread_row c.args.self.now.unnamed g b rows k d e.0 c.loop-row-test.true (unread_for_memory c.args.self.now.unnamed g (group_of b.properties (get_or rows k d).node) e.0 e.2.0 e.2.1))

pub loop-row-preserved : goal.loop-row-preserved
loop-row-preserved c =
    rows_more c.args.self.now.unnamed c.args.self.now.growing.now c.args.self.now.belongings.now c.args.rows.now c.loop-row.row-index (record { node = 0; parent = 0 }) c.loop-row.nodes.items c.push.new.self.items c.in_ok-node.node
    c.loop-row-test.true c.in_ok-push.ensures.items c.loop-row.invariant c.in_ok-node.ensures

pub returns : goal.returns
returns c =
    let rows = c.args.rows.now in
    let all : take c.loop-row.row-index rows ≡ rows = take_all c.loop-row.row-index rows c.loop-row-test.false in
    subst (λ (rs : List Row). EachNaming c.args.self.now.growing.now c.args.self.now.belongings.now.places.items (λ es place.
    AreRowsRead c.args.self.now.unnamed es place c.args.self.now.growing.now c.args.self.now.belongings.now rs (map node_said c.loop-row.nodes.items))) all c.loop-row.invariant
