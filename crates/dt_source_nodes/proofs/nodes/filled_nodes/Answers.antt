use Rattle.std.proofs.Common.{map}
use Rattle.std.proofs.lemmas.Result.{err_from_is_err_and}
use Rattle.dt_source_named_tree.specs.Said.{node_said}
use Rattle.dt_source_nodes.proofs.Ending.{nodes_listed, nodes_unlisted, unplaced}
use Rattle.dt_source_nodes.proofs.nodes.filled_nodes.Goals as goal

pub returns-in_err-fill : goal.returns-in_err-fill
returns-in_err-fill c =
    let r = c.args.resolver.now in
    let g = r.growing.now in
    let b = r.belongings.now in
    let rows = c.args.rows.now in
    let known = c.requires in
    let e = err_from_is_err_and c.from_residual-in_err-fill.result c.from_residual-in_err-fill.ensures.1 in
    let fault = c.in_err-fill.field-0.0 in
    let why = c.in_err-fill.ensures in
    rw (e.1, e.2) (unplaced r.unnamed g b rows fault why, λ es grown root. nodes_unlisted g b rows known.rows known.belong known.places es grown root r.unnamed fault why)

pub returns : goal.returns
returns c =
    let r = c.args.resolver.now in
    let known = c.requires in
    λ es grown root. nodes_listed r.growing.now r.belongings.now c.args.rows.now known.rows known.belong known.places es grown root r.unnamed (map node_said c.fill.new.nodes.items) c.in_ok-fill.ensures
