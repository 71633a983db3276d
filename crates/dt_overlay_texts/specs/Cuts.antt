-- Bytes that are cut at a separator.
use Rattle.std.specs.Prelude.{◌≡◌, ◌≢◌, ℕ, ◌==◌, List, [], ◌∷◌, ◌++◌, if◌then◌else◌}
use Rattle.std.specs.List.{AllByRecursion}
use Rattle.std.specs.Str.Parse.{IsNumeral, digits_value}

-- none of the bytes is this one
abbrev pub Lacks : ℕ → List ℕ → Type 0
Lacks separator bytes = AllByRecursion (λ b. b ≢ separator) bytes

-- the bytes are cut at the first separator
pub record IsCut (separator : ℕ) (bytes front rest : List ℕ) : Type 0 where
  pub whole : bytes ≡ front ++ separator ∷ rest
  pub lacks : Lacks separator front

-- a byte in front of what the first text begins with
abbrev pub onto_text : ℕ → List (List ℕ) → List (List ℕ)
onto_text b [] = []
onto_text b (x ∷ xs) = (b ∷ x) ∷ xs

-- the texts of a value; bytes behind the last NUL are of none
unfoldable pub texts_in : List ℕ → List (List ℕ)
texts_in [] = []
texts_in (b ∷ value) = if b == 0 then [] ∷ texts_in value else onto_text b (texts_in value)

-- the bytes are decimal digits, and write the number
pub record IsNumeralOf (digits : List ℕ) (n : ℕ) : Type 0 where
  pub numeral : IsNumeral 10 digits
  pub value : digits_value 10 digits ≡ n
