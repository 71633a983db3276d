use Rattle.std.proofs.Common.{[], ◌∷◌}
use Rattle.dt_lex.proofs.LetterLemmas.{letter_itself}
use Rattle.dt_lex.proofs.quoted.after_letter.Goals as goal

pub returns-in-Some-clause-exact : goal.returns-in-Some-clause-exact
returns-in-Some-clause-exact c =
    let found = c.in-Some.ensures.some in
    (found.0 ∷ [], letter_itself c.args.class c.requires c.args.text.now found.0 c.in-Some.rest.now found.1 found.2)
