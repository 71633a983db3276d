use Rattle.std.proofs.Common.{refl}
use Rattle.std.proofs.lemmas.Result.{err_from_is_err_and, IfErr-weaker, on_ok_weaker}
use Rattle.dt_grammar.specs.Unchecked.{raw_close}
use Rattle.dt_model.specs.Source as model
use Rattle.dt_parse.specs.Reading.{no_memory}
use Rattle.dt_parse.specs.Nested.{labelled, unclosed}
use Rattle.dt_parse.proofs.Members.{err_is, said_one, unclosed_end, closed, labels_unfollowed, no_brace}
use Rattle.dt_parse.proofs.body.close.Goals as goal

pub returns-then-labelled-clause-err : goal.returns-then-labelled-clause-err
returns-then-labelled-clause-err c =
    λ ls e f. labelled (λ a. labels_unfollowed a ls c.args.cursor.now c.stop.result c.requires (f c.if-labelled.true) c.stop.ensures.kind c.stop.ensures.left)

pub returns-in_err-expect-clause-err : goal.returns-in_err-expect-clause-err
returns-in_err-expect-clause-err c =
    let p = err_from_is_err_and c.from_residual.result c.from_residual.ensures.1 in err_is _ c.from_residual.result _ p.0 p.1 p.2 (λ ls e f. unclosed (e c.if-labelled.false) (λ a qs. no_brace a qs c.args.cursor.now _ c.in_err-expect.ensures.err.0 c.in_err-expect.ensures.err.1 c.in_err-expect.ensures.err.2))

pub returns-in_err-expect-2-clause-err : goal.returns-in_err-expect-2-clause-err
returns-in_err-expect-2-clause-err c =
    let p = err_from_is_err_and c.from_residual-in_err-expect-2.result c.from_residual-in_err-expect-2.ensures.1 in err_is _ c.from_residual-in_err-expect-2.result _ p.0 p.1 p.2 (λ ls e f. unclosed_end ls c.args.cursor.now c.expect.new.self _ c.in_ok-expect.ensures.ok.1 (e c.if-labelled.false) c.in_ok-expect.ensures.ok.0 c.in_err-expect-2.ensures.err.0 c.in_err-expect-2.ensures.err.1 c.in_err-expect-2.ensures.err.2)

pub returns-clause-ok : goal.returns-clause-ok
returns-clause-ok c =
    let h = closed c.args.cursor.now c.expect.new.self c.expect-2.new.self c.in_ok-expect.ensures.ok.1 c.in_ok-expect-2.ensures.ok.1 c.in_ok-expect.ensures.ok.0 c.in_ok-expect-2.ensures.ok.0 in
    on_ok_weaker c.push_item.result (λ e. (c.if-labelled.false, h.0, h.1, said_one _ _ model.close raw_close e refl)) c.push_item.ensures.ok

pub returns-clause-err : goal.returns-clause-err
returns-clause-err c = IfErr-weaker c.push_item.result _ _ (λ stop k ls e f. labelled (λ a. no_memory k)) c.push_item.ensures.err
