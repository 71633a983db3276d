-- The pieces of a value's text.
use Rattle.std.specs.Prelude.{ℕ, List, [], ◌∷◌, ◌++◌, codes}
use Rattle.dt_model.specs.Printed.{hexadecimal, significant}

-- cells behind a cell, each with a blank before it
abbrev pub cells_behind : List ℕ → List ℕ
cells_behind (a ∷ b ∷ c ∷ d ∷ bytes) = codes " 0x" ++ (significant (hexadecimal (a ∷ b ∷ c ∷ d ∷ [])) ++ cells_behind bytes)
cells_behind _ = []

-- bytes behind a byte, each with a blank before it
abbrev pub bytes_behind : List ℕ → List ℕ
bytes_behind [] = []
bytes_behind (b ∷ bytes) = codes " " ++ (hexadecimal (b ∷ []) ++ bytes_behind bytes)
