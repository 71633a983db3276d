use Rattle.std.proofs.Common.{sym, subst}
use Rattle.dt_lex.specs.declared.rule.Rule.{Rule}
use Rattle.dt_lex.specs.Words.{NoneFits}
use Rattle.dt_lex.specs.Rules.{In}
use Rattle.dt_lex.proofs.LabelLemmas.{unlabelled_here}
use Rattle.dt_lex.proofs.cut.after.Goals as goal

pub returns-in-Label-clause-exact : goal.returns-in-Label-clause-exact
returns-in-Label-clause-exact c =
    let s = c.args.text.now in
    let none = unlabelled_here c.args.mode c.args.fresh c.args.unlabelled s c.if-unlabelled-gt0.true c.requires in
    subst (λ (r : Rule). NoneFits (In r c.args.mode c.args.fresh) s) (sym c.in-Label.is) none
