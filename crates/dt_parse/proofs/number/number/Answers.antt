use Rattle.std.proofs.Common.{rules}
use Rattle.std.proofs.lemmas.Result.{err_from_is_err_and}
use Rattle.dt_expr.specs.Fits.{Fits}
use Rattle.dt_grammar.specs.Faults.{in_elements}
use Rattle.dt_parse.proofs.Numbers.{unfit}
use Rattle.dt_parse.proofs.number.number.Goals as goal

pub returns-in_err-value-clause-err : goal.returns-in_err-value-clause-err
returns-in_err-value-clause-err c =
    let p = err_from_is_err_and c.from_residual.result c.from_residual.ensures.1 in
    rw (p.1, p.2) (λ a. c.in_err-value.ensures.err (in_elements c.args.bits a))

pub returns-in-Err-clause-err : goal.returns-in-Err-clause-err
returns-in-Err-clause-err c =
    let large : ¬ Fits c.args.bits c.in_ok-value.value = λ f. search (rules, c.in-Err.ensures.fits.1 f) in
    unfit c.args.cursor.now c.in_ok-value.value c.in_ok-value.used c.args.bits c.stop.result c.in_ok-value.ensures.ok large c.stop.ensures.kind c.stop.ensures.left
