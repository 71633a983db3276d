use Rattle.std.proofs.Common.{arith}
use Rattle.std.proofs.lemmas.Result.{IfErr-weaker, on_ok_weaker}
use Rattle.dt_grammar.specs.Faults.{outside}
use Rattle.dt_parse.specs.Reading.{IsBroken}
use Rattle.dt_grammar.specs.Wanted.{NextVersion}
use Rattle.dt_parse.proofs.Leading.{handed_on, no_longer}
use Rattle.dt_parse.proofs.ReadHeaders.{next_stop, next_plain, next_tagged_stop, next_tagged_end_stop, next_tagged}
use Rattle.dt_parse.proofs.parser.next_header.Goals as goal

pub returns-in_err-expect-clause-err : goal.returns-in_err-expect-clause-err
returns-in_err-expect-clause-err c =
    let e = c.in_err-expect.ensures.err in
    handed_on c.from_residual.result c.in_err-expect.field-0.0 (IsBroken outside (NextVersion c.args.plugin) c.args.cursor.now) c.from_residual.ensures.1 (next_stop c.args.plugin _ _ e.0 e.1 e.2)

pub returns-then-not-plugin-clause-ok : goal.returns-then-not-plugin-clause-ok
returns-then-not-plugin-clause-ok c = let o = c.in_ok-expect.ensures.ok in next_plain c.args.plugin _ _ c.if-not-plugin.true o.0 o.1

pub returns-in_err-expect-2-clause-err : goal.returns-in_err-expect-2-clause-err
returns-in_err-expect-2-clause-err c =
    let e = c.in_err-expect-2.ensures.err in
    let o = c.in_ok-expect.ensures.ok in
    handed_on c.from_residual-in_err-expect-2.result c.in_err-expect-2.field-0.0 (IsBroken outside (NextVersion c.args.plugin) c.args.cursor.now) c.from_residual-in_err-expect-2.ensures.1
    (next_tagged_stop c.args.plugin _ _ _ c.if-not-plugin.false o.0 o.1 e.0 e.1 e.2)

pub returns-clause-ok : goal.returns-clause-ok
returns-clause-ok c =
    let o = c.in_ok-expect.ensures.ok in
    let s = c.in_ok-expect-2.ensures.ok in
    on_ok_weaker c.expect-3.result (λ t. next_tagged c.args.plugin _ _ _ _ c.if-not-plugin.false o.0 o.1 s.0 s.1 t.0 t.1) c.expect-3.ensures.ok

pub returns-clause-err : goal.returns-clause-err
returns-clause-err c =
    let o = c.in_ok-expect.ensures.ok in
    let s = c.in_ok-expect-2.ensures.ok in
    IfErr-weaker c.expect-3.result _ _ (λ stop e. next_tagged_end_stop c.args.plugin _ _ _ stop c.if-not-plugin.false o.0 o.1 s.0 s.1 e.0 e.1 e.2) c.expect-3.ensures.err

pub returns-then-not-plugin-clause-shorter : goal.returns-then-not-plugin-clause-shorter
returns-then-not-plugin-clause-shorter c = no_longer _ _ c.in_ok-expect.ensures.ok.1

pub returns-clause-shorter : goal.returns-clause-shorter
returns-clause-shorter c =
    let one = no_longer c.args.cursor.now c.expect.new.self c.in_ok-expect.ensures.ok.1 in
    let two = no_longer c.expect.new.self c.expect-2.new.self c.in_ok-expect-2.ensures.ok.1 in
    on_ok_weaker c.expect-3.result (λ t. let three = no_longer c.expect-2.new.self c.expect-3.new.self t.1 in omega (arith, one, two, three)) c.expect-3.ensures.ok
