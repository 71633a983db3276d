-- Specifiers that pass through a map, as numbers.
use Rattle.std.specs.Prelude.{ℕ, ◌==◌, List, [], ◌∷◌, if◌then◌else◌}
use Rattle.dt_resolve_model.specs.Specifiers.{passed}

-- a row's cell, through which the cell at hand passes in the bits of a mask
abbrev pub number_passed : (row at_hand mask : ℕ) → ℕ
number_passed row at_hand mask = if mask == 0 then row else if mask == 0xffffffff then at_hand else passed row at_hand mask

-- the same with the first cell at hand, and the first of the mask; behind the specifier at hand, and without a mask, a row's cell stays
abbrev pub first_merged : ℕ → List ℕ → List ℕ → ℕ
first_merged r [] mask = r
first_merged r (c ∷ at_hand) [] = r
first_merged r (c ∷ at_hand) (m ∷ mask) = number_passed r c m

-- a row's specifier, through which that at hand passes cell by cell
abbrev pub merged_numbers : (row at_hand mask : List ℕ) → List ℕ
merged_numbers [] at_hand mask = []
merged_numbers (r ∷ row) [] mask = r ∷ row
merged_numbers (r ∷ row) (c ∷ at_hand) [] = r ∷ row
merged_numbers (r ∷ row) (c ∷ at_hand) (m ∷ mask) = number_passed r c m ∷ merged_numbers row at_hand mask
