-- Numbers at places of some bytes.
use Rattle.std.specs.Prelude.{ℕ, ◌+◌, List, length, take, drop, Option, Some, None, nat_le, if◌then◌else◌}
use Rattle.std.specs.Int.{w64, from_be_bytes}

-- the 64-bit number at a place of the bytes, the highest byte first, where eight bytes stand there
abbrev pub long_at : List ℕ → ℕ → Option ℕ
long_at bytes at = if nat_le (at + 8) (length bytes) then Some (from_be_bytes w64 (take 8 (drop at bytes))) else None
