use Rattle.std.proofs.Common.{sym, subst, List, ℕ, ◌<◌, length, refl, arith}
use Rattle.dt_lex.specs.declared.rule.Rule.TheVariants as rule
use Rattle.dt_lex.specs.Modes.{keyword_bytes}
use Rattle.dt_lex.specs.Words.{Word, IsLongestWord}
use Rattle.dt_lex.proofs.Decided.{decided_of, keyword_cut}
use Rattle.dt_lex.proofs.piece.keyword.Goals as goal

pub returns-clause-exact : goal.returns-clause-exact
returns-clause-exact c = λ m.
    let s = c.args.text.now in
    let k = c.in_ok-keyword.keyword in
    let rest = c.in_ok-rest.rest.now in
    let found = c.in_ok-rest.ensures.exact in
    let bytes = c.keyword_bytes.ensures.value in
    let word : IsLongestWord (Word (keyword_bytes k)) s found.0 rest = subst (λ (b : List ℕ). IsLongestWord (Word b) s found.0 rest) bytes found.1 in
    let short : length rest < length s = omega (arith, c.in_ok-rest.ensures.shorter, c.keyword_bytes.ensures.filled) in
    decided_of m s (rule.Keyword k) found.0 rest _ c.piece_of.result
    (λ fresh. keyword_cut m fresh s c.in_ok-first.behind.now c.in_ok-first.first c.byte_at.result k c.in_ok-first.ensures.some c.if-first-ne47.false (sym c.byte_at.ensures) c.in_ok-keyword.ensures found.0 rest word short) refl
    c.piece_of.ensures.kind c.piece_of.ensures.rest c.piece_of.ensures.word
