use Rattle.std.proofs.Common.{[], ◌∷◌, sym, ap, ℕ, refl}
use Rattle.std.specs.List.{filter}
use Rattle.dt_lex.specs.declared.token.Mark.TheVariants as mark
use Rattle.dt_lex.specs.declared.rule.Rule.TheVariants as rule
use Rattle.dt_lex.specs.Leaders.{leader_of, leads}
use Rattle.dt_lex.specs.Rules.{rules}
use Rattle.dt_lex.specs.Vocabulary.{Identifier}
use Rattle.dt_lex.proofs.Decided.{decided_of, cut_behind, first_of}
use Rattle.dt_lex.proofs.piece.reference.Goals as goal

pub returns-clause-exact : goal.returns-clause-exact
returns-clause-exact c = λ m.
    let s = c.args.text.now in
    let rest = c.in_ok-rest.rest.now in
    let word = c.in_ok-rest.ensures.exact in
    let first = first_of 38 [] Identifier s word.0 rest word.1.split word.1.fits in
    decided_of m s rule.LabelReference word.0 rest _ c.piece_of.result
    (λ fresh.
    cut_behind m fresh s [] rule.LabelReference (rule.PathReference ∷ rule.Mark mark.And ∷ rule.Mark mark.Ampersand ∷ []) (ap (λ (b : ℕ). filter (leads (leader_of b)) rules) (sym first)) tt refl word.0 rest word.1 c.in_ok-rest.ensures.shorter)
    refl c.piece_of.ensures.kind c.piece_of.ensures.rest c.piece_of.ensures.word
