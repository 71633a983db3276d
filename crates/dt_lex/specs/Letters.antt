-- Letters: what texts and characters are made of.
use Rattle.std.specs.Prelude.{◌≡◌, ◌⊎◌, ℕ, ◌≤◌, Bool, List, [], ◌∷◌, ◌++◌, length}
use Rattle.dt_lex.specs.declared.byte.Class.{Class}
use Rattle.dt_lex.specs.Bytes.{is_in}
use Rattle.dt_lex.specs.Words.{Each, Word, One, Either, Then, Stops}
use Rattle.dt_lex.specs.Vocabulary.{Escape, IsInside}

-- a byte of a class that means itself, or an escape
abbrev pub Letter : Class → List ℕ → Type 0
Letter c = Either (One (is_in c)) Escape

-- the inside of a text, and its closing quote
abbrev pub ClosedText : List ℕ → Type 0
ClosedText w = (u v : List ℕ) × (w ≡ u ++ 34 ∷ []) × IsInside u v

-- one letter, and the closing quote
abbrev pub ClosedCharacter : Class → List ℕ → Type 0
ClosedCharacter c = Then (Letter c) (Word (39 ∷ []))

-- rest is what is left after as many bytes at the front that pass the test as there are, but no more than so many
abbrev pub RunsUpTo : (ℕ → Bool) → ℕ → (text rest : List ℕ) → Type 0
RunsUpTo p count text rest =
    (w : List ℕ) × (text ≡ w ++ rest) × Each p w × (length w ≤ count) × ((length w ≡ count) ⊎ Stops p rest)
