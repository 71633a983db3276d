use Rattle.std.proofs.lemmas.Result.{IfErr-weaker, on_ok_weaker}
use Rattle.dt_grammar.specs.Wanted.{BitsOpen}
use Rattle.dt_grammar.specs.Faults.{Around}
use Rattle.dt_parse.specs.Reading.{IsBroken}
use Rattle.dt_parse.proofs.Leading.{handed_on}
use Rattle.dt_parse.proofs.ReadItems.{open_stop, cells_stop, cells_end_stop, cell_list_read}
use Rattle.dt_parse.proofs.value.cell_list.Goals as goal

pub returns-in_err-expect-clause-err : goal.returns-in_err-expect-clause-err
returns-in_err-expect-clause-err c =
    let e = c.in_err-expect.ensures.err in
    handed_on c.from_residual.result c.in_err-expect.field-0.0 (λ stop. (a : Around) → IsBroken a (BitsOpen c.args.bits) c.args.cursor.now stop) c.from_residual.ensures.1
    (open_stop c.args.bits _ _ e.0 e.1 e.2)

pub returns-in_err-cells-clause-err : goal.returns-in_err-cells-clause-err
returns-in_err-cells-clause-err c =
    let o = c.in_ok-expect.ensures.ok in
    handed_on c.from_residual-in_err-cells.result c.in_err-cells.field-0.0 (λ stop. (a : Around) → IsBroken a (BitsOpen c.args.bits) c.args.cursor.now stop) c.from_residual-in_err-cells.ensures.1
    (cells_stop c.args.bits _ _ _ o.0 o.1 c.in_err-cells.ensures.err)

pub returns-clause-ok : goal.returns-clause-ok
returns-clause-ok c =
    let o = c.in_ok-expect.ensures.ok in
    let r = c.in_ok-cells.ensures.ok in
    on_ok_weaker c.expect-2.result (λ t. (r.0, cell_list_read c.args.bits _ _ _ _ r.0 o.0 o.1 r.1 t.0 t.1, r.2)) c.expect-2.ensures.ok

pub returns-clause-err : goal.returns-clause-err
returns-clause-err c =
    let o = c.in_ok-expect.ensures.ok in
    let r = c.in_ok-cells.ensures.ok in
    IfErr-weaker c.expect-2.result _ _ (λ stop e. cells_end_stop c.args.bits _ _ _ r.0 stop o.0 o.1 r.1 e.0 e.1 e.2) c.expect-2.ensures.err
