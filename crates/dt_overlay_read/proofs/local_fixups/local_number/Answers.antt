use Rattle.std.proofs.Common.{◌∙◌, sym, true≢false}
use Rattle.dt_trees.specs.Placed.{path_at, reading_of}
use Rattle.dt_overlay_object.proofs.OwnNumbers.{number-read, no_node, local-number, not_named}
use Rattle.dt_overlay_read.proofs.local_fixups.local_number.Goals as goal

pub returns-in_err-named : goal.returns-in_err-named
returns-in_err-named g c numbers brought =
    let t = g.V.TreeView.tree c.args.object.now in
    let n = c.cell_number-number.result in
    rw c.from_residual.ensures
    (no_node (reading_of t) (path_at t c.args.node) c.args.value.now c.args.offset n (number-read c.args.value.now c.args.offset n c.cell_number-number.ensures) (sym c.in_err-named.ensures.finds))

pub returns-then-not-may_name : goal.returns-then-not-may_name
returns-then-not-may_name g c numbers brought =
    let t = g.V.TreeView.tree c.args.object.now in
    let n = c.cell_number-number.result in
    not_named (reading_of t) numbers (path_at t c.args.node) (path_at t c.in_ok-named.named) c.args.value.now c.args.offset n
    (number-read c.args.value.now c.args.offset n c.cell_number-number.ensures) (sym c.in_ok-named.ensures.finds)
    (λ may. true≢false (sym ((c.may_name.ensures numbers brought).1 may) ∙ c.if-not-may_name.true))

pub returns : goal.returns
returns g c numbers brought =
    let t = g.V.TreeView.tree c.args.object.now in
    let n = c.cell_number-number.result in
    local-number (reading_of t) numbers (path_at t c.args.node) (path_at t c.in_ok-named.named) c.args.value.now c.args.offset n
    (number-read c.args.value.now c.args.offset n c.cell_number-number.ensures) (sym c.in_ok-named.ensures.finds)
    c.number.result c.unwrap_or.result (c.has_cell.ensures.0 c.if-not-has_cell.false)
    ((c.may_name.ensures numbers brought).0 c.if-not-may_name.false) (c.number.ensures ∙ brought.numbered (path_at t c.in_ok-named.named) c.in_ok-named.named c.in_ok-named.ensures.node) c.unwrap_or.ensures
