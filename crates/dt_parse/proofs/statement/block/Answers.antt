use Rattle.std.proofs.Common.{◌++◌, ◌∷◌, [], map}
use Rattle.std.proofs.lemmas.Result.{err_from_is_err_and, IfErr-weaker, on_ok_weaker}
use Rattle.dt_grammar.specs.Unchecked.{raw_block, raw_label}
use Rattle.dt_grammar.specs.Wanted.{kind_at, bytes_at}
use Rattle.dt_grammar.specs.Descent.{first}
use Rattle.dt_parse.specs.Reading.{no_memory}
use Rattle.dt_parse.proofs.Members.{err_is, said_more}
use Rattle.dt_parse.proofs.Beginnings.{node_start, block_read, block_stops_in}
use Rattle.dt_parse.proofs.statement.block.Goals as goal

pub returns-in_err-open_block-clause-err : goal.returns-in_err-open_block-clause-err
returns-in_err-open_block-clause-err c =
    let p = err_from_is_err_and c.from_residual.result c.from_residual.ensures.1 in err_is _ c.from_residual.result _ p.0 p.1 p.2 c.in_err-open_block.ensures.err

pub returns-in_err-push_labels-clause-err : goal.returns-in_err-push_labels-clause-err
returns-in_err-push_labels-clause-err c =
    let p = err_from_is_err_and c.from_residual-in_err-push_labels.result c.from_residual-in_err-push_labels.ensures.1 in
    err_is _ c.from_residual-in_err-push_labels.result _ p.0 p.1 p.2 (λ ls. no_memory c.in_err-push_labels.ensures.err)

pub returns-clause-err : goal.returns-clause-err
returns-clause-err c =
    let x = node_start (kind_at (first c.args.cursor.now)) c.requires in
    let n = c.in_ok-open_block.ensures.ok x.0 x.1 in
    IfErr-weaker c.body.result _ _ (λ stop d ls. block_stops_in ls c.args.cursor.now c.open_block.new.cursor x.0 stop x.1 n.0 n.1 (d (raw_block x.0 (bytes_at (first c.args.cursor.now)) ∷ map raw_label ls))) c.body.ensures.err

pub returns-clause-ok : goal.returns-clause-ok
returns-clause-ok c =
    let x = node_start (kind_at (first c.args.cursor.now)) c.requires in
    let n = c.in_ok-open_block.ensures.ok x.0 x.1 in
    let b = bytes_at (first c.args.cursor.now) in
    λ ls f t. on_ok_weaker c.body.result
    (λ h. (
      (raw_block x.0 b ∷ map raw_label ls) ++ h.0,
      block_read ls c.args.cursor.now c.open_block.new.cursor c.body.new.cursor x.0 h.0 x.1 n.0 t n.1 (h.1 (raw_block x.0 b ∷ map raw_label ls)) h.2 h.3,
      said_more c.args.items.now.places c.push_labels.new.items.places c.body.new.items.places (raw_block x.0 b ∷ map raw_label ls) h.0
          (said_more c.args.items.now.places c.open_block.new.items.places c.push_labels.new.items.places (raw_block x.0 b ∷ []) (map raw_label ls) n.2 (c.in_ok-push_labels.ensures.ok ls f)) h.4,
    ))
    c.body.ensures.ok
