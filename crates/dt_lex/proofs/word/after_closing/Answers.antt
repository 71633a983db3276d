use Rattle.std.proofs.Common.{[], ◌∷◌, length, Some, None, ap, arith}
use Rattle.dt_lex.proofs.WordLemmas.{closing_empty, closing_here, closing_go, word_split}
use Rattle.dt_lex.proofs.word.after_closing.Goals as goal

pub returns-in-Some-after_word-clause-exact : goal.returns-in-Some-after_word-clause-exact
returns-in-Some-after_word-clause-exact c =
    let s = c.loop-later.rest.now in
    let rest = c.in-Some-after_word.behind in
    c.loop-later.invariant.follows (Some rest) (42 ∷ 47 ∷ [], closing_here s rest.now (word_split (42 ∷ 47 ∷ []) s rest.now c.in-Some-after_word.ensures.exact))

pub loop-later-preserved : goal.loop-later-preserved
loop-later-preserved c =
    let kept = c.loop-later.invariant in
    let s = c.loop-later.rest.now in
    let t = c.in-Some.later.now in
    let at = c.in-Some.ensures.some in
    record {
      shorter = omega (arith, kept.shorter, ap length at);
      follows = λ r h. kept.follows r (closing_go s c.in-Some.field-0-0 t at c.in_default-after_word.ensures.exact r h);
    }

pub returns-clause-exact : goal.returns-clause-exact
returns-clause-exact c = c.loop-later.invariant.follows None (closing_empty c.loop-later.rest.now c.in_default.ensures.none)
