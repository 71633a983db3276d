-- Reservations as they are read (Devicetree Specification v0.4, 5.3): pairs of 64-bit numbers, and a pair of zeros.
use Rattle.std.specs.Prelude.{◌≡◌, ℕ, zero, suc, ◌<◌, ◌^◌, Bool, true, false, ◌&&◌, List, [], ◌∷◌, ◌++◌, length, drop, Option, Some, None, ◌==◌, if◌then◌else◌}
use Rattle.dt_model.specs.Format.{pair}
use Rattle.dt_model.specs.Lexing.{◌>>=◌}
use Rattle.dt_bytes.specs.Places.{long_at}

-- the bytes begin with these pairs, none of them two zeros, and a pair of zeros
abbrev pub SpellsPairs : List (ℕ × ℕ) → List ℕ → Type 0
SpellsPairs [] bytes = (rest : List ℕ) × (bytes ≡ pair (0, 0) ++ rest)
SpellsPairs (p ∷ ps) bytes = (rest : List ℕ) × (bytes ≡ pair p ++ rest) × ((p.0 == 0) && (p.1 == 0) ≡ false) × (p.0 < 2 ^ 64)
    × (p.1 < 2 ^ 64) × SpellsPairs ps rest

unfoldable pub pair_in : List ℕ → Option (ℕ × ℕ)
pair_in bytes = long_at bytes 0 >>= λ address. long_at bytes 8 >>= λ size. Some (address, size)

abbrev pub pairs_from : Option (ℕ × ℕ) → List (ℕ × ℕ) → List (ℕ × ℕ)
pairs_from None later = []
pairs_from (Some p) later = if (p.0 == 0) && (p.1 == 0) then [] else p ∷ later

abbrev pub ends_from : Option (ℕ × ℕ) → Bool → Bool
ends_from None later = false
ends_from (Some p) later = if (p.0 == 0) && (p.1 == 0) then true else later

-- the pairs up to a pair of zeros, or to the end
unfoldable pub pairs_in : ℕ → List ℕ → List (ℕ × ℕ)
pairs_in zero bytes = []
pairs_in (suc fuel) bytes = pairs_from (pair_in bytes) (pairs_in fuel (drop 16 bytes))

-- whether there is a pair of zeros
unfoldable pub ends_in : ℕ → List ℕ → Bool
ends_in zero bytes = false
ends_in (suc fuel) bytes = ends_from (pair_in bytes) (ends_in fuel (drop 16 bytes))

-- the pairs of a reservation block
abbrev pub pairs_of : List ℕ → List (ℕ × ℕ)
pairs_of bytes = pairs_in (length bytes) bytes

abbrev pub ends : List ℕ → Bool
ends bytes = ends_in (length bytes) bytes
