use Rattle.std.proofs.lemmas.Result.{IfErr-weaker, on_ok_weaker}
use Rattle.dt_grammar.specs.Unchecked.{byte_item}
use Rattle.dt_grammar.specs.Wanted.{OneItem, kind_at}
use Rattle.dt_grammar.specs.Descent.{first}
use Rattle.dt_grammar.specs.Faults.{Around}
use Rattle.dt_parse.specs.Reading.{IsBroken}
use Rattle.dt_parse.proofs.Leading.{handed_on}
use Rattle.dt_parse.proofs.ReadItems.{at_byte_list, bytes_stop, byte_list_read, bytes_end_stop}
use Rattle.dt_parse.proofs.value.byte_list.Goals as goal

pub returns-in_err-bytes-clause-err : goal.returns-in_err-bytes-clause-err
returns-in_err-bytes-clause-err c =
    let k = at_byte_list (kind_at (first c.args.cursor.now)) c.requires in
    handed_on c.from_residual.result c.in_err-bytes.field-0.0 (λ stop. (a : Around) → IsBroken a OneItem c.args.cursor.now stop) c.from_residual.ensures.1
    (bytes_stop _ _ _ k c.advance.ensures c.in_err-bytes.ensures.err)

pub returns-clause-ok : goal.returns-clause-ok
returns-clause-ok c =
    let k = at_byte_list (kind_at (first c.args.cursor.now)) c.requires in
    let r = c.in_ok-bytes.ensures.ok in
    on_ok_weaker c.expect.result (λ t. (byte_item r.0, byte_list_read _ _ _ _ r.0 k c.advance.ensures r.1 t.0 t.1, r.2)) c.expect.ensures.ok

pub returns-clause-err : goal.returns-clause-err
returns-clause-err c =
    let k = at_byte_list (kind_at (first c.args.cursor.now)) c.requires in
    let r = c.in_ok-bytes.ensures.ok in
    IfErr-weaker c.expect.result _ _ (λ stop e. bytes_end_stop _ _ _ r.0 stop k c.advance.ensures r.1 e.0 e.1 e.2) c.expect.ensures.err
