use Rattle.std.proofs.Common.{ap}
use Rattle.std.proofs.lemmas.Result.{err_from_is_err_and, IfErr-weaker, on_ok_weaker}
use Rattle.dt_model.specs.Source as model
use Rattle.dt_grammar.specs.Unchecked.{raw_block}
use Rattle.dt_grammar.specs.Wanted.{kind_at, bytes_at}
use Rattle.dt_grammar.specs.Descent.{first}
use Rattle.dt_parse.specs.Reading.{no_memory}
use Rattle.dt_parse.proofs.Members.{err_is, said_one}
use Rattle.dt_parse.proofs.Beginnings.{node_start, bad_node}
use Rattle.dt_parse.proofs.statement.open_block.Goals as goal

pub returns-in_err-node-clause-err : goal.returns-in_err-node-clause-err
returns-in_err-node-clause-err c =
    let x = node_start (kind_at (first c.args.cursor.now)) c.requires in
    let n = c.in_err-node.ensures x.0 x.1 in
    let p = err_from_is_err_and c.from_residual.result c.from_residual.ensures.1 in err_is _ c.from_residual.result _ p.0 p.1 p.2 (λ ls. bad_node ls c.args.cursor.now x.0 _ x.1 n.0 n.1 n.2)

pub returns-clause-ok : goal.returns-clause-ok
returns-clause-ok c =
    λ t e. let n = c.in_ok-node.ensures t e in
    on_ok_weaker c.push_item.result (λ h. (n.0, c.advance.ensures, said_one _ _ _ (raw_block t (bytes_at (first c.args.cursor.now))) h (ap model.block n.1))) c.push_item.ensures.ok

pub returns-clause-err : goal.returns-clause-err
returns-clause-err c = IfErr-weaker c.push_item.result _ _ (λ stop k ls. no_memory k) c.push_item.ensures.err
