-- The numbers that digits spell.
use Rattle.std.specs.Prelude.{ℕ, ◌+◌, ◌-◌, ◌*◌, ◌^◌, ◌&&◌, Bool, true, List, [], ◌∷◌, Option, Some, None, if◌then◌else◌, ◌==◌, nat_lt, nat_le}

-- the digit that a byte means
abbrev pub digit_of : ℕ → ℕ
digit_of b = if nat_le b 57 then b - 48 else (if nat_le b 70 then b - 55 else b - 87)

-- the digits at the front
abbrev pub digits : (ℕ → Bool) → List ℕ → List ℕ
digits p [] = []
digits p (b ∷ w) = if p b then digit_of b ∷ digits p w else []

-- the number that digits spell, behind a number that digits before them spell
abbrev pub number_behind : ℕ → ℕ → List ℕ → ℕ
number_behind base n [] = n
number_behind base n (d ∷ ds) = number_behind base (n * base + d) ds

abbrev pub all_below : ℕ → List ℕ → Bool
all_below base [] = true
all_below base (d ∷ ds) = nat_lt d base && all_below base ds

-- the number that digits spell, if all are digits of the base and the number fits 64 bits
abbrev pub integer_of : ℕ → List ℕ → Option ℕ
integer_of base ds =
    if all_below base ds && nat_lt (number_behind base 0 ds) (2 ^ 64) then Some (number_behind base 0 ds) else None

-- the base of a number without a prefix: octal where its first digit is 0
abbrev pub base_of : List ℕ → ℕ
base_of [] = 10
base_of (b ∷ w) = if b == 48 then 8 else 10
