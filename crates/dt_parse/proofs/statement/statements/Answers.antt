use Rattle.std.proofs.Common.{◌≡◌, ◌≢◌, ◌++◌, [], length, arith}
use Rattle.std.proofs.lemmas.Result.{err_from_is_err_and}
use Rattle.dt_grammar.specs.Wanted.{SomeLabels, made_labels}
use Rattle.dt_grammar.specs.Faults.{outside}
use Rattle.dt_parse.proofs.Members.{err_is, said_more, not_longer}
use Rattle.dt_parse.proofs.Following.{statement_stops, statement_shorter, labels_between, one_follows, follows_on, follows_nothing, all_read, stops_behind}
use Rattle.dt_parse.proofs.statement.statements.Goals as goal

pub returns-in_err-statement-clause-err : goal.returns-in_err-statement-clause-err
returns-in_err-statement-clause-err c =
    λ ls e t. let p = err_from_is_err_and c.from_residual.result c.from_residual.ensures.1 in
    err_is _ c.from_residual.result _ p.0 p.1 p.2 (statement_stops ls c.args.cursor.now _ (c.in_err-statement.ensures.err ls e))

pub statements-init : goal.statements-init
statements-init c =
    λ ls e t. let r = c.in_ok-statement.ensures.ok ls e t in
    (ls, c.args.cursor.now, [], r.0, follows_nothing ls c.args.cursor.now, r.1, r.2)

pub returns-in_err-others-clause-err : goal.returns-in_err-others-clause-err
returns-in_err-others-clause-err c =
    let a = c.statements-test.true in
    let b = c.left.ensures in
    let more : length c.statements.cursor ≢ 0 = λ q. omega (arith, a, b, q) in
    λ ls e t. let i = c.statements.invariant ls e t in
    let p = err_from_is_err_and c.from_residual-in_err-others.result c.from_residual-in_err-others.ensures.1 in
    err_is _ c.from_residual-in_err-others.result _ p.0 p.1 p.2
    (stops_behind ls i.0 c.args.cursor.now i.1 i.2 _ i.4 (labels_between i.0 i.1 c.statements.cursor i.3 _ more i.5 (c.in_err-others.ensures.err outside)))

pub statements-smaller : goal.statements-smaller
statements-smaller c =
    let h = c.in_ok-others.ensures.ok in
    let r = c.in_ok-statement-2.ensures.ok h.0 h.2 (h.1 outside).fine in
    let a = not_longer SomeLabels c.statements.cursor c.labels.new.cursor (made_labels h.0) (h.1 outside).read in
    let b = statement_shorter h.0 c.labels.new.cursor c.statement-in-statements.new.cursor r.0 r.1.read in
    omega (arith, a, b)

pub statements-preserved : goal.statements-preserved
statements-preserved c =
    let a = c.statements-test.true in
    let b = c.left.ensures in
    let more : length c.statements.cursor ≢ 0 = λ q. omega (arith, a, b, q) in
    let h = c.in_ok-others.ensures.ok in
    let r = c.in_ok-statement-2.ensures.ok h.0 h.2 (h.1 outside).fine in
    λ ls e t. let i = c.statements.invariant ls e t in (
      h.0,
      c.labels.new.cursor,
      i.2 ++ i.3,
      r.0,
      follows_on ls i.0 h.0 c.args.cursor.now i.1 c.labels.new.cursor i.2 i.3 i.4 (one_follows i.0 h.0 i.1 c.statements.cursor c.labels.new.cursor i.3 more i.5 (h.1 outside)),
      r.1,
      said_more c.args.items.now.places c.statements.items.places c.statement-in-statements.new.items.places (i.2 ++ i.3) r.0 i.6 r.2,
    )

pub returns-in_err-statement-2-clause-err : goal.returns-in_err-statement-2-clause-err
returns-in_err-statement-2-clause-err c =
    let a = c.statements-test.true in
    let b = c.left.ensures in
    let more : length c.statements.cursor ≢ 0 = λ q. omega (arith, a, b, q) in
    let h = c.in_ok-others.ensures.ok in
    λ ls e t. let i = c.statements.invariant ls e t in
    let p = err_from_is_err_and c.from_residual-in_err-statement-2.result c.from_residual-in_err-statement-2.ensures.1 in
    err_is _ c.from_residual-in_err-statement-2.result _ p.0 p.1 p.2
    (stops_behind ls h.0 c.args.cursor.now c.labels.new.cursor (i.2 ++ i.3) _
    (follows_on ls i.0 h.0 c.args.cursor.now i.1 c.labels.new.cursor i.2 i.3 i.4 (one_follows i.0 h.0 i.1 c.statements.cursor c.labels.new.cursor i.3 more i.5 (h.1 outside)))
    (statement_stops h.0 c.labels.new.cursor _ (c.in_err-statement-2.ensures.err h.0 h.2)))

pub returns-clause-ok : goal.returns-clause-ok
returns-clause-ok c =
    let a = c.statements-test.false in
    let b = c.left.ensures in
    let none : length c.statements.cursor ≡ 0 = omega (arith, a, b) in
    λ ls e t. let i = c.statements.invariant ls e t in
    (i.2 ++ i.3, all_read ls i.0 c.args.cursor.now i.1 c.statements.cursor i.2 i.3 i.4 none i.5, i.6)
