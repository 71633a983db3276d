-- The 32-bit numbers of a value, chunk by chunk.
use Rattle.std.proofs.Common.{◌≡◌, ℕ, ◌<◌, List, [], ◌∷◌, ◌++◌, length, get_or, refl, arith}
use Rattle.std.specs.Int.{w32, from_be_bytes}
use Rattle.dt_model.specs.Object.{words_of}

-- less than four bytes hold none
pub words-none : (xs : List ℕ) → length xs < 4 → words_of xs ≡ []
words-none [] h = refl
words-none (a ∷ []) h = refl
words-none (a ∷ b ∷ []) h = refl
words-none (a ∷ b ∷ c ∷ []) h = refl
words-none (a ∷ b ∷ c ∷ d ∷ rest) h = absurd (omega arith)

-- four bytes hold one, in front of those behind them
pub words-more : (xs rest : List ℕ) → length xs ≡ 4 → words_of (xs ++ rest) ≡ from_be_bytes w32 xs ∷ words_of rest
words-more [] rest h = absurd (omega arith)
words-more (a ∷ []) rest h = absurd (omega arith)
words-more (a ∷ b ∷ []) rest h = absurd (omega arith)
words-more (a ∷ b ∷ c ∷ []) rest h = absurd (omega arith)
words-more (a ∷ b ∷ c ∷ d ∷ []) rest h = refl
words-more (a ∷ b ∷ c ∷ d ∷ e ∷ xs) rest h = absurd (omega arith)

-- four bytes are their four elements
pub four_bytes : (xs : List ℕ) → length xs ≡ 4 → from_be_bytes w32 (get_or xs 0 0 ∷ get_or xs 1 0 ∷ get_or xs 2 0 ∷ get_or xs 3 0 ∷ []) ≡ from_be_bytes w32 xs
four_bytes [] h = absurd (omega arith)
four_bytes (a ∷ []) h = absurd (omega arith)
four_bytes (a ∷ b ∷ []) h = absurd (omega arith)
four_bytes (a ∷ b ∷ c ∷ []) h = absurd (omega arith)
four_bytes (a ∷ b ∷ c ∷ d ∷ []) h = refl
four_bytes (a ∷ b ∷ c ∷ d ∷ e ∷ xs) h = absurd (omega arith)
