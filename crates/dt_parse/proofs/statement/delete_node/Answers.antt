use Rattle.std.proofs.Common.{sym, ◌∙◌, ap, ◌∷◌, []}
use Rattle.std.proofs.lemmas.Result.{err_from_is_err_and, IfErr-weaker, on_ok_weaker}
use Rattle.dt_model.specs.Source as model
use Rattle.dt_grammar.specs.Unchecked.{raw_delete_node}
use Rattle.dt_grammar.specs.Wanted.{kind_at, bytes_at}
use Rattle.dt_grammar.specs.Descent.{first}
use Rattle.dt_parse.specs.Reading.{no_memory}
use Rattle.dt_parse.specs.Starts.{start_of}
use Rattle.dt_parse.proofs.Members.{err_is, said_one}
use Rattle.dt_parse.proofs.Beginnings.{node_start, labelled_deletion, delete_read, no_reference, bad_deletion, unended_deletion}
use Rattle.dt_parse.proofs.statement.delete_node.Goals as goal

pub returns-then-labelled-clause-err : goal.returns-then-labelled-clause-err
returns-then-labelled-clause-err c =
    λ ls e f. labelled_deletion ls c.args.cursor.now c.stop.result c.requires (f c.if-labelled.true) c.stop.ensures.kind c.stop.ensures.left

pub returns-in_err-node-in-Node-clause-err : goal.returns-in_err-node-in-Node-clause-err
returns-in_err-node-in-Node-clause-err c =
    let x = node_start (kind_at (first c.advance.new.self)) (sym (c.start_of.ensures ∙ ap start_of c.kind.ensures) ∙ c.in-Node.is) in
    let n = c.in_err-node-in-Node.ensures x.0 x.1 in
    let p = err_from_is_err_and c.from_residual.result c.from_residual.ensures.1 in err_is _ c.from_residual.result _ p.0 p.1 p.2 (λ ls e f. bad_deletion ls c.args.cursor.now c.advance.new.self x.0 _ c.requires (e c.if-labelled.false) c.advance.ensures x.1 n.0 n.1 n.2)

pub returns-in_err-expect-in-Node-clause-err : goal.returns-in_err-expect-in-Node-clause-err
returns-in_err-expect-in-Node-clause-err c =
    let x = node_start (kind_at (first c.advance.new.self)) (sym (c.start_of.ensures ∙ ap start_of c.kind.ensures) ∙ c.in-Node.is) in
    let n = c.in_ok-node-in-Node.ensures x.0 x.1 in
    let s = c.in_err-expect-in-Node.ensures.err in
    let p = err_from_is_err_and c.from_residual-in_err-expect-in-Node.result c.from_residual-in_err-expect-in-Node.ensures.1 in err_is _ c.from_residual-in_err-expect-in-Node.result _ p.0 p.1 p.2 (λ ls e f. unended_deletion ls c.args.cursor.now c.advance.new.self c.advance-in-Node.new.self x.0 _ c.requires (e c.if-labelled.false) c.advance.ensures x.1 n.0 c.advance-in-Node.ensures s.0 s.1 s.2)

pub returns-in_ok-expect-in-Node-clause-ok : goal.returns-in_ok-expect-in-Node-clause-ok
returns-in_ok-expect-in-Node-clause-ok c =
    let x = node_start (kind_at (first c.advance.new.self)) (sym (c.start_of.ensures ∙ ap start_of c.kind.ensures) ∙ c.in-Node.is) in
    let n = c.in_ok-node-in-Node.ensures x.0 x.1 in
    let s = c.in_ok-expect-in-Node.ensures.ok in
    on_ok_weaker c.push_item.result
    (λ e. (
      c.if-labelled.false,
      (
        raw_delete_node x.0 (bytes_at (first c.advance.new.self)) ∷ [],
        delete_read c.args.cursor.now c.advance.new.self c.advance-in-Node.new.self c.expect.new.self x.0 c.requires c.advance.ensures x.1 n.0 c.advance-in-Node.ensures s.0 s.1,
        said_one c.args.items.now c.push_item.new.items _ (raw_delete_node x.0 (bytes_at (first c.advance.new.self))) e (ap model.delete_node n.1),
      ),
    ))
    c.push_item.ensures.ok

pub returns-in_ok-expect-in-Node-clause-err : goal.returns-in_ok-expect-in-Node-clause-err
returns-in_ok-expect-in-Node-clause-err c = IfErr-weaker c.push_item.result _ _ (λ stop k ls e f. no_memory k) c.push_item.ensures.err

pub returns-in_default : goal.returns-in_default
returns-in_default c =
    record {
      ok = tt;
      err = λ ls e f. no_reference ls c.args.cursor.now c.advance.new.self c.stop-in_default.result c.requires (e c.if-labelled.false) c.advance.ensures (λ q. c.in_default.not-Node (c.start_of.ensures ∙ ap start_of c.kind.ensures ∙ q)) c.stop-in_default.ensures.kind c.stop-in_default.ensures.left;
    }
