use Rattle.std.proofs.Common.{[], ◌∷◌, ◌∙◌, sym, ap, subst, ℕ, List, refl, arith, length}
use Rattle.std.specs.Prelude.{slice_index}
use Rattle.std.specs.List.{filter}
use Rattle.dt_lex.specs.declared.token.Mode.TheVariants as mode
use Rattle.dt_lex.specs.declared.rule.Rule.{Rule}
use Rattle.dt_lex.specs.declared.rule.Rule.TheVariants as rule
use Rattle.dt_lex.specs.Leaders.{leader_of, leads}
use Rattle.dt_lex.specs.Rules.{rules}
use Rattle.dt_lex.specs.Words.{Word, IsLongestWord}
use Rattle.dt_lex.proofs.Decided.{decided_of, cut_behind, forbidden}
use Rattle.dt_lex.proofs.WordLemmas.{word_some}
use Rattle.dt_lex.proofs.piece.operator.Goals as goal

pub returns-clause-exact : goal.returns-clause-exact
returns-clause-exact c =
    let s = c.args.text.now in
    let first = c.in_ok-first.first in
    let rest = c.in_ok-first.rest.now in
    let split = c.in_ok-first.ensures.some in
    let own : Rule = rule.Mark c.in_ok-mark.mark in
    decided_of mode.Plain s own (first ∷ []) rest _ c.piece_of.result
    (λ fresh.
    cut_behind mode.Plain fresh s (rule.Name ∷ []) own [] (c.in_ok-mark.ensures.1 ∙ ap (λ (x : List ℕ). filter (leads (leader_of (slice_index x 0))) rules) (sym split)) (forbidden mode.Plain fresh s rule.Name refl, tt) refl (first ∷ [])
    rest (subst (λ (k : List ℕ). IsLongestWord (Word k) s (first ∷ []) rest) (sym c.in_ok-mark.ensures.0) (word_some (first ∷ []) s rest split)) (omega (arith, ap length split)))
    refl c.piece_of.ensures.kind c.piece_of.ensures.rest c.piece_of.ensures.word
