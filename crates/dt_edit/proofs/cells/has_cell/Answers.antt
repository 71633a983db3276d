use Rattle.std.proofs.Common.{◌-◌, arith}
use Rattle.std.proofs.lemmas.Bool.{leb-true, le-leb}
use Rattle.dt_edit.proofs.CellsPatched.{cell_there}
use Rattle.dt_edit.proofs.cells.has_cell.Goals as goal

pub returns-then-offset-span : goal.returns-then-offset-span
returns-then-offset-span c =
    let offset = c.args.offset in
    let len = c.in-Some.span.len in
    let there = cell_there c.args.bytes.now c.args.node c.args.name.now offset c.in-Some.span c.in-Some.ensures.0 c.in-Some.ensures.1 c.in-Some.ensures.2 in
    (λ h. there.1 (omega (arith, leb-true 4 (len - offset) h, c.if-offset-span.true)), λ has. le-leb 4 (len - offset) (omega (arith, there.0 has)))

pub returns-else-offset-span : goal.returns-else-offset-span
returns-else-offset-span c =
    let offset = c.args.offset in
    let len = c.in-Some.span.len in
    let there = cell_there c.args.bytes.now c.args.node c.args.name.now offset c.in-Some.span c.in-Some.ensures.0 c.in-Some.ensures.1 c.in-Some.ensures.2 in
    (λ h. absurd (omega (arith, leb-true offset len h, c.if-offset-span.false)), λ has. absurd (omega (arith, there.0 has, c.if-offset-span.false)))
