use Rattle.std.proofs.Common.{[], ◌∷◌, sym, refl}
use Rattle.dt_lex.specs.declared.rule.Rule.TheVariants as rule
use Rattle.dt_lex.proofs.Decided.{decided_of, sole_cut}
use Rattle.dt_lex.proofs.piece.lone_mark.Goals as goal

pub returns-clause-exact : goal.returns-clause-exact
returns-clause-exact c = λ m.
    let s = c.args.text.now in
    let rest = c.in_ok-first.rest.now in
    decided_of m s (rule.Mark c.in_ok-mark.mark) (c.in_ok-first.first ∷ []) rest _ c.piece_of.result
    (λ fresh. sole_cut m fresh c.in_ok-first.first c.byte_at.result c.in_ok-mark.mark s rest c.in_ok-first.ensures.some (sym c.byte_at.ensures) c.in_ok-mark.ensures) refl c.piece_of.ensures.kind c.piece_of.ensures.rest c.piece_of.ensures.word
