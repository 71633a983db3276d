-- Values in one buffer.
use Rattle.std.specs.Prelude.{ℕ, ◌+◌, ◌≤◌, ◌⊎◌, List, [], ◌∷◌, take, drop, length}
use Rattle.std.specs.List.{AllByRecursion}
use Rattle.dt_flat.specs.declared.values.Span.{Span}

-- the bytes of a span
abbrev pub cut : List ℕ → Span → List ℕ
cut bytes s = take s.len (drop s.start bytes)

abbrev pub cuts : List ℕ → List Span → List (List ℕ)
cuts bytes [] = []
cuts bytes (s ∷ ss) = cut bytes s ∷ cuts bytes ss

-- no byte belongs to both
abbrev pub AreApart : Span → Span → Type 0
AreApart s t = (s.start + s.len ≤ t.start) ⊎ (t.start + t.len ≤ s.start)

abbrev pub AreAllApart : List Span → Type 0
AreAllApart [] = Unit {0}
AreAllApart (s ∷ ss) = AllByRecursion (AreApart s) ss × AreAllApart ss

-- the spans are of these bytes, and each byte belongs to one of them at most
pub record AreCuts (bytes : List ℕ) (ss : List Span) : Type 0 where
  pub within : AllByRecursion (λ s. s.start + s.len ≤ length bytes) ss
  pub apart : AreAllApart ss
