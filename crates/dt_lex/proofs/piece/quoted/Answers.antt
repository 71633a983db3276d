use Rattle.std.proofs.Common.{[], ◌++◌, ◌∙◌, sym, ap, ℕ, List, refl}
use Rattle.std.specs.Prelude.{slice_index}
use Rattle.std.specs.List.{filter}
use Rattle.dt_lex.specs.declared.token.Mode.TheVariants as mode
use Rattle.dt_lex.specs.declared.rule.Rule.TheVariants as rule
use Rattle.dt_lex.specs.Leaders.{leader_of, leads}
use Rattle.dt_lex.specs.Rules.{rules}
use Rattle.dt_lex.proofs.Decided.{decided_of, cut_behind}
use Rattle.dt_lex.proofs.piece.quoted.Goals as goal

pub returns-clause-exact : goal.returns-clause-exact
returns-clause-exact c =
    let s = c.args.text.now in
    let rest = c.in_ok-rest.rest.now in
    let word = c.in_ok-rest.ensures.exact in
    let first = ap (λ (x : List ℕ). slice_index x 0) (word.1.split ∙ ap (λ (x : List ℕ). x ++ rest) word.1.fits.1.whole) in
    decided_of mode.Plain s rule.Text word.0 rest _ c.piece_of.result
    (λ fresh. cut_behind mode.Plain fresh s [] rule.Text [] (ap (λ (b : ℕ). filter (leads (leader_of b)) rules) (sym first)) tt refl word.0 rest word.1 c.in_ok-rest.ensures.shorter) refl c.piece_of.ensures.kind c.piece_of.ensures.rest
    c.piece_of.ensures.word
