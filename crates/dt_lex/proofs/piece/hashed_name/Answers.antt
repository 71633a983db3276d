use Rattle.std.proofs.Common.{[], ◌∷◌, ◌∙◌, sym, ap, ℕ, false, refl}
use Rattle.std.specs.List.{filter}
use Rattle.dt_lex.specs.declared.token.Mode.TheVariants as mode
use Rattle.dt_lex.specs.declared.rule.Rule.TheVariants as rule
use Rattle.dt_lex.specs.Leaders.{leader_of, leads}
use Rattle.dt_lex.specs.Rules.{rules}
use Rattle.dt_lex.proofs.Decided.{NoneOf, piece_is, cut_behind, forbidden}
use Rattle.dt_lex.proofs.piece.hashed_name.Goals as goal

pub returns-clause-exact : goal.returns-clause-exact
returns-clause-exact c =
    let s = c.args.text.now in
    let rest = c.in_ok-rest.rest.now in
    let word = c.in_ok-rest.ensures.exact in
    let first = sym c.byte_at.ensures ∙ c.if-byte_at-ne35.false in
    let before : NoneOf mode.Name false s (rule.LineMarker ∷ rule.LongLineMarker ∷ []) = (forbidden mode.Name false s rule.LineMarker refl, (forbidden mode.Name false s rule.LongLineMarker refl, tt)) in
    piece_is mode.Name false s rule.Name word.0 rest _ c.piece_of.result
    (cut_behind mode.Name false s (rule.LineMarker ∷ rule.LongLineMarker ∷ []) rule.Name [] (ap (λ (b : ℕ). filter (leads (leader_of b)) rules) (sym first)) before refl word.0 rest word.1 c.in_ok-rest.ensures.shorter) refl
    c.piece_of.ensures.kind c.piece_of.ensures.rest c.piece_of.ensures.word
