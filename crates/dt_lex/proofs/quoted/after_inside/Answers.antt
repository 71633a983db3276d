use Rattle.std.proofs.Common.{[], ◌∷◌, Some, None, sym, subst, arith}
use Rattle.dt_lex.specs.Words.{Skips}
use Rattle.dt_lex.specs.Letters.{ClosedText}
use Rattle.dt_lex.proofs.WordLemmas.{word_split}
use Rattle.dt_lex.proofs.LetterLemmas.{closed_here, closed_go, closed_run, closed_stuck}
use Rattle.dt_lex.proofs.quoted.after_inside.Goals as goal

pub returns-in-Some-clause-exact : goal.returns-in-Some-clause-exact
returns-in-Some-clause-exact c =
    let s = c.after_all-rest.result.now in
    let run = c.after_all-rest.ensures.exact in
    let rest = c.in-Some.behind in
    let closed = closed_here s rest.now (word_split (34 ∷ []) s rest.now c.in-Some.ensures.exact) in
    c.loop-behind.invariant.follows (Some rest) (closed_run run.0 c.loop-behind.rest.now s run.1 run.2 (Some rest) (34 ∷ [], closed))

pub returns-in_err-rest-clause-exact : goal.returns-in_err-rest-clause-exact
returns-in_err-rest-clause-exact c =
    let s = c.after_all-rest.result.now in
    let run = c.after_all-rest.ensures.exact in
    let stuck = closed_stuck s c.in_default.ensures.exact c.in_err-rest.ensures.exact in
    let none = c.loop-behind.invariant.follows None (closed_run run.0 c.loop-behind.rest.now s run.1 run.2 None stuck) in
    subst (Skips ClosedText c.args.text.now) (sym c.from_residual.ensures) none

pub loop-behind-preserved : goal.loop-behind-preserved
loop-behind-preserved c =
    let kept = c.loop-behind.invariant in
    let s = c.after_all-rest.result.now in
    let run = c.after_all-rest.ensures.exact in
    let l = c.in_ok-rest.ensures.exact in
    record {
      shorter = omega (arith, kept.shorter, c.after_all-rest.ensures.shorter, c.in_ok-rest.ensures.shorter);
      follows = λ r h. kept.follows r (closed_run run.0 c.loop-behind.rest.now s run.1 run.2 r (closed_go s l.0 c.in_ok-rest.rest.now c.in_default.ensures.exact l.1 r h));
    }
