use Rattle.std.proofs.Common.{arith}
use Rattle.dt_lex.proofs.LabelLemmas.{unlabelled_run}
use Rattle.dt_lex.proofs.label.unlabelled.Goals as goal

pub returns-in-Some : goal.returns-in-Some
returns-in-Some c = λ u v e l. absurd (omega (arith, l))

pub returns-in-None : goal.returns-in-None
returns-in-None c = unlabelled_run c.args.text.now c.after_all-rest.result.now c.after_all-rest.ensures.exact c.in-None.ensures.exact
