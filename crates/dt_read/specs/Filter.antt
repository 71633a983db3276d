-- A table of bits that holds hashes.
use Rattle.std.specs.Prelude.{ℕ, ◌*◌, ◌/◌, ◌%◌, ◌^◌, Bool, ◌&&◌, ◌==◌, List, length, slice_index}
use Rattle.std.specs.Int.{bit_at}

-- the bit at that place, counted over the words
unfoldable pub has_bit_at : List ℕ → ℕ → Bool
has_bit_at words place = bit_at (slice_index words (place / 64)) (place % 64) == 1

-- the bit of that number, counted round again behind the last
abbrev pub is_set : List ℕ → ℕ → Bool
is_set words number = has_bit_at words (number % (length words * 64))

-- all bits of the hash are set
abbrev pub holds : List ℕ → ℕ → Bool
holds words hash =
    is_set words hash && is_set words (hash / 2 ^ 10) && is_set words (hash / 2 ^ 20) && is_set words (hash / 2 ^ 30) && is_set words (hash / 2 ^ 40)
