-- Which values an element of some bits takes (Devicetree Specification v0.4, 6.3): those below 2^bits, and negative ones, whose
-- upper bits are all ones.
use Rattle.std.specs.Prelude.{◌≡◌, ℕ, ◌-◌, ◌/◌, ◌%◌, ◌^◌, ◌<◌, ◌⊎◌}

-- a number of 64 bits that is below 2^bits, or whose bits from there up are all ones
abbrev pub Fits : ℕ → ℕ → Type 0
Fits bits n = (n < 2 ^ bits) ⊎ (n / 2 ^ bits ≡ 2 ^ (64 - bits) - 1)

-- its low bits
abbrev pub element : ℕ → ℕ → ℕ
element bits n = n % 2 ^ bits

-- the widths of elements
abbrev pub IsWidth : ℕ → Type 0
IsWidth bits = (bits ≡ 8) ⊎ (bits ≡ 16) ⊎ (bits ≡ 32) ⊎ (bits ≡ 64)
