-- A source is a relaxed one that passes the checks; where no relaxed source goes on.
use Rattle.std.specs.Prelude.{◌≡◌, ℕ, ◌+◌, take}
use Rattle.dt_grammar.specs.Words.{Words}
use Rattle.dt_grammar.specs.Grammar.{Says}
use Rattle.dt_grammar.specs.Unchecked.{RawSource, says_of}
use Rattle.dt_grammar.specs.Relaxed.{RelaxedSource}
use Rattle.dt_grammar.specs.Strict.{IsStrict}

-- the tokens are a relaxed source's that passes the checks and says this
pub record IsChecked (ws : Words) (s : Says) : Type 0 where
  pub raw : RawSource
  pub relaxed : RelaxedSource ws raw
  pub strict : IsStrict raw
  pub says : says_of raw ≡ s

-- no relaxed source begins with the first tokens through that place; where the place is the list's length, the list is none
abbrev pub NoneBegins : Words → ℕ → Type 0
NoneBegins ws place = (xs : Words) (s : RawSource) → RelaxedSource xs s → take (place + 1) xs ≡ take (place + 1) ws → ⊥
