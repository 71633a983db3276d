use Rattle.std.proofs.Common.{[], ◌∷◌, sym, ap, ℕ, true, refl}
use Rattle.std.specs.List.{filter}
use Rattle.dt_lex.specs.declared.byte.Class.TheVariants as class
use Rattle.dt_lex.specs.declared.token.Mode.TheVariants as mode
use Rattle.dt_lex.specs.declared.rule.Rule.TheVariants as rule
use Rattle.dt_lex.specs.Bytes.{is_in}
use Rattle.dt_lex.specs.Leaders.{leader_of, leads}
use Rattle.dt_lex.specs.Rules.{rules}
use Rattle.dt_lex.specs.Vocabulary.{Run}
use Rattle.dt_lex.specs.Words.{Each, Starting, Then}
use Rattle.dt_lex.proofs.Decided.{piece_is, cut_behind, first_of}
use Rattle.dt_lex.proofs.piece.line_marker.Goals as goal

pub returns-clause-exact : goal.returns-clause-exact
returns-clause-exact c =
    let s = c.args.text.now in
    let rest = c.in_ok-rest.rest.now in
    let word = c.in_ok-rest.ensures.exact in
    let first = first_of 35 [] (Then (Run class.LineBlank) (Starting (is_in class.Digit) (Each (is_in class.Line)))) s word.0 rest word.1.split word.1.fits in
    piece_is mode.Name true s rule.LineMarker word.0 rest _ c.piece_of.result
    (cut_behind mode.Name true s [] rule.LineMarker (rule.LongLineMarker ∷ rule.Name ∷ []) (ap (λ (b : ℕ). filter (leads (leader_of b)) rules) (sym first)) tt refl word.0 rest word.1 c.in_ok-rest.ensures.shorter) refl
    c.piece_of.ensures.kind c.piece_of.ensures.rest c.piece_of.ensures.word
