-- Where no label begins.
use Rattle.std.specs.Prelude.{◌≡◌, ℕ, ◌<◌, List, ◌++◌, length}
use Rattle.dt_lex.specs.Words.{NoneFits}
use Rattle.dt_lex.specs.Vocabulary.{LabelWord}

-- no label begins at any of so many bytes at the front
abbrev pub IsUnlabelled : ℕ → List ℕ → Type 0
IsUnlabelled count text = (u v : List ℕ) → text ≡ u ++ v → length u < count → NoneFits LabelWord v
