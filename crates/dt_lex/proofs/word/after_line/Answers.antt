use Rattle.dt_lex.proofs.LineLemmas.{line_to, line_whole}
use Rattle.dt_lex.proofs.word.after_line.Goals as goal

pub returns-in-Some-clause-exact : goal.returns-in-Some-clause-exact
returns-in-Some-clause-exact c = line_to c.args.text.now c.in-Some.place c.in-Some.ensures.0.high c.in-Some.ensures.0.before c.in-Some.ensures.1

pub returns-in-None-clause-exact : goal.returns-in-None-clause-exact
returns-in-None-clause-exact c = line_whole c.args.text.now c.in-None.ensures
