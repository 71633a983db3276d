use Rattle.std.proofs.lemmas.Result.{IfErr-weaker, on_ok_weaker}
use Rattle.dt_grammar.specs.Unchecked.{cell_item}
use Rattle.dt_grammar.specs.Wanted.{BitsNumber}
use Rattle.dt_grammar.specs.Faults.{Around}
use Rattle.dt_parse.specs.Reading.{IsBroken}
use Rattle.dt_parse.proofs.Leading.{handed_on}
use Rattle.dt_parse.proofs.ReadItems.{width_stop, sized_stop, sized_read}
use Rattle.dt_parse.proofs.value.sized_cells.Goals as goal

pub returns-in_err-bits-clause-err : goal.returns-in_err-bits-clause-err
returns-in_err-bits-clause-err c =
    let e = c.in_err-bits.ensures in
    handed_on c.from_residual.result c.in_err-bits.field-0.0 (λ stop. (a : Around) → IsBroken a BitsNumber c.args.cursor.now stop) c.from_residual.ensures.1
    (width_stop _ _ e.0 e.1 e.2)

pub returns-clause-ok : goal.returns-clause-ok
returns-clause-ok c =
    let o = c.in_ok-bits.ensures in
    on_ok_weaker c.cell_list.result (λ r. (cell_item c.in_ok-bits.bits r.0, sized_read c.in_ok-bits.bits _ _ _ _ o.1 c.advance.ensures r.1, r.2)) c.cell_list.ensures.ok

pub returns-clause-err : goal.returns-clause-err
returns-clause-err c =
    let o = c.in_ok-bits.ensures in
    IfErr-weaker c.cell_list.result _ _ (λ stop d. sized_stop c.in_ok-bits.bits _ _ stop o.1 c.advance.ensures d) c.cell_list.ensures.err
