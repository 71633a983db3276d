-- What a text says in the grammar, and why it says nothing.
use Rattle.std.specs.Prelude.{◌≡◌, ℕ, ◌≤◌, List, [], ◌∷◌, ◌++◌, length, Option, Some, None, Ok, true}
use Rattle.dt_model.specs.Limits.{most_bytes}
use Rattle.dt_names.specs.declared.fault.Fault.{Fault}
use Rattle.dt_names.specs.declared.fault.FaultKind.{FaultKind}
use Rattle.dt_names.specs.declared.fault.FaultKind.TheVariants as fault
use Rattle.dt_lex.specs.declared.token.TokenKind.TheVariants as kind
use Rattle.dt_lex.specs.declared.token.Mark.TheVariants as mark
use Rattle.dt_lex.specs.declared.token.Keyword.TheVariants as keyword
use Rattle.dt_lex.specs.declared.token.Token.{Token}
use Rattle.dt_lex.specs.Lexing.{IsLexed, WhyNotLexed}
use Rattle.dt_grammar.specs.Words.{Words, words_of}
use Rattle.dt_grammar.specs.Grammar.{Says, SpellsSource}
use Rattle.dt_grammar.specs.Wanted.{Whole, kind_at}
use Rattle.dt_grammar.specs.Descent.{first, after}
use Rattle.dt_grammar.specs.Faults.{outside, Breaks}

-- the tokens begin with `/dts-v1/;`
abbrev pub IsTagged : Words → Type 0
IsTagged ws = (kind_at (first ws) ≡ Some (kind.Keyword keyword.Version)) × (kind_at (first (after true ws)) ≡ Some (kind.Mark mark.Semicolon))

-- the first byte of the first of these tokens, or the end of the text where there is none
abbrev pub token_place : List ℕ → List Token → ℕ
token_place text [] = length text
token_place text (t ∷ ts) = t.start

-- a limit has no place
abbrev pub told_at : FaultKind → ℕ → Option ℕ
told_at fault.Limit place = None
told_at _ place = Some place

-- the text has a token list, which the grammar spells, and this is what it says
pub record IsParsed (text : List ℕ) (s : Says) : Type 0 where
  pub size : length text ≤ most_bytes
  pub tokens : List Token
  pub lexed : IsLexed text (Ok tokens)
  pub spelled : SpellsSource (words_of text tokens) s

-- Why a text is no source, or memory is wanted: it has no token list, or is too long; its tokens don't begin with the version
-- tag, which is reported at its start; or they break, at the first of these that are left.
pub data WhyNotParsed (text : List ℕ) : Fault → Type 0 where
  unlexed : (e : Fault) → WhyNotLexed text e → WhyNotParsed text e
  untagged : (tokens : List Token) → length text ≤ most_bytes → IsLexed text (Ok tokens) → ¬ IsTagged (words_of text tokens) →
      WhyNotParsed text (record { kind = fault.BadVersionTag; at = Some 0 })
  broken : (tokens before left : List Token) (k : FaultKind) → length text ≤ most_bytes → IsLexed text (Ok tokens) → IsTagged (words_of text tokens) → tokens ≡ before ++ left →
      Breaks outside Whole (words_of text tokens) k (words_of text left) →
      WhyNotParsed text (record { kind = k; at = told_at k (token_place text left) })
