use Rattle.std.proofs.Common.{◌≡◌, List, Some, sym, subst, arith}
use Rattle.dt_expr.specs.declared.step.Step.{Step}
use Rattle.dt_expr.specs.Expression.{AreSteps, height}
use Rattle.std.proofs.lemmas.Result.{err_from_is_err_and}
use Rattle.dt_grammar.specs.Words.{Words}
use Rattle.dt_grammar.specs.Wanted.{Prim}
use Rattle.dt_grammar.specs.Faults.{Around}
use Rattle.dt_parse.specs.Reading.{IsBroken}
use Rattle.dt_parse.specs.Numbers.{IsMeasured}
use Rattle.dt_parse.proofs.Numbers.{literal_valued, undivided}
use Rattle.dt_parse.proofs.number.valued.Goals as goal

pub returns-in-Some-clause-ok : goal.returns-in-Some-clause-ok
returns-in-Some-clause-ok c = literal_valued c.args.cursor.now c.kind.result c.in-Some.value c.kind.ensures c.in-Some.ensures

pub returns-in_err-used-clause-err : goal.returns-in_err-used-clause-err
returns-in_err-used-clause-err c =
    let p = err_from_is_err_and c.from_residual.result c.from_residual.ensures.1 in
    rw (p.1, p.2)
    (subst (λ (ws : Words). (a : Around) → IsBroken a Prim ws c.in_err-used.field-0.0) c.tokens.ensures.1 (c.in_err-used.ensures.err c.tokens.ensures.0))

pub value_of-requires : goal.value_of-requires
value_of-requires c =
    let m = subst (λ (ws : Words). IsMeasured ws c.measured.new.room.steps.items c.in_ok-used.used) c.tokens.ensures.1 (c.in_ok-used.ensures.ok c.tokens.ensures.0) in
    subst AreSteps (sym c.deref.ensures.value) (record {
      one = subst (λ (ss : List Step). height 0 ss ≡ Some 1) (sym m.steps_are) (c.one_expression.ensures.height m.expression);
      few = omega (arith, m.short, m.few);
    })

pub returns-in-None-clause-err : goal.returns-in-None-clause-err
returns-in-None-clause-err c =
    let used = c.in_ok-used.used in
    let m = subst (λ (ws : Words). IsMeasured ws c.measured.new.room.steps.items used) c.tokens.ensures.1 (c.in_ok-used.ensures.ok c.tokens.ensures.0) in
    let same = subst (λ (ss : List Step). IsMeasured c.args.cursor.now ss used) (sym c.deref.ensures.value) m in
    undivided c.args.cursor.now c.deref.result.now used c.value_of.result c.stop.result same c.value_of.ensures c.in-None.is c.stop.ensures.kind c.stop.ensures.left
