-- Words that a text may have: they are made of bytes, and so is what means one.
use Rattle.std.specs.Prelude.{◌≡◌, ℕ, ◌<◌, List}
use Rattle.std.specs.List.{AllByRecursion}
use Rattle.dt_lex.specs.declared.token.TokenKind.TheVariants as kind
use Rattle.dt_grammar.specs.Words.{Word, Words}

-- the numbers are bytes
abbrev pub AreBytes : List ℕ → Type 0
AreBytes bytes = AllByRecursion (λ b. b < 256) bytes

-- a word is made of bytes, and where it is one in a list of bytes, its number is a byte
pub record HasBytes (w : Word) : Type 0 where
  pub bytes : AreBytes w.bytes
  pub byte : (b : ℕ) → w.kind ≡ kind.Byte b → b < 256

-- so is each of these words
abbrev pub HaveBytes : Words → Type 0
HaveBytes ws = AllByRecursion HasBytes ws
