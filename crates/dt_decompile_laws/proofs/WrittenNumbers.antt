-- What hexadecimal digits spell.
use Rattle.std.proofs.Common.{◌≡◌, ℕ, ◌+◌, ◌*◌, ◌<◌, ◌^◌, Bool, true, false, List, [], ◌∷◌, map, Some, refl, sym, ◌∙◌, ap, arith}
use Rattle.std.specs.Prelude.{◌==◌, ◌/◌, ◌%◌, slice_index, codes, if◌then◌else◌}
use Rattle.std.specs.Int.{w32, w64, from_be_bytes, to_be_bytes}
use Rattle.std.specs.List.{AllByRecursion}
use Rattle.std.proofs.lemmas.Bool.{eqb-true, agree_below_at, lt-ltb}
use Rattle.std.proofs.lemmas.Nat.{from_be_bytes-to_be_bytes_8}
use Rattle.dt_lex.specs.declared.byte.Class.TheVariants as class
use Rattle.dt_lex.specs.Bytes.{is_in}
use Rattle.dt_lex.specs.Numbers.{digit_of, digits, number_behind, all_below, integer_of}
use Rattle.dt_lex.specs.Words.{Each}
use Rattle.dt_grammar.proofs.TextBytes.{digit_small}
use Rattle.dt_model.specs.Printed.{hexadecimal, significant}

-- the digit of a number below 16
abbrev pub figure : ℕ → ℕ
figure k = slice_index (codes "0123456789abcdef") k

-- it is hexadecimal
figure_hex : (k : ℕ) → k < 16 → is_in class.Hex (figure k) ≡ true
figure_hex k l = agree_below_at (λ n. is_in class.Hex (figure n)) (λ n. true) 16 k refl l

-- and stands for the number
figure_digit : (k : ℕ) → k < 16 → digit_of (figure k) ≡ k
figure_digit k l = eqb-true _ _ (agree_below_at (λ n. digit_of (figure n) == n) (λ n. true) 16 k refl l)

-- ---- the digits of bytes

abbrev pub AreBytes : List ℕ → Type 0
AreBytes bs = AllByRecursion (λ b. b < 256) bs

-- both digits of a byte, and the byte of both digits
pub record IsPair (b c d : ℕ) : Type 0 where
  pub high : is_in class.Hex c ≡ true
  pub low : is_in class.Hex d ≡ true
  pub spells : 16 * digit_of c + digit_of d ≡ b

-- as a byte is printed
pub pair_of : (b : ℕ) → b < 256 → IsPair b (figure (b / 16)) (figure (b % 16))
pair_of b l =
    let high : b / 16 < 16 = omega arith in
    let low : b % 16 < 16 = omega arith in
    record {
      high = figure_hex (b / 16) high;
      low = figure_hex (b % 16) low;
      spells = omega (arith, figure_digit (b / 16) high, figure_digit (b % 16) low);
    }

-- the digits of bytes are hexadecimal
pub hexadecimal_hex : (bs : List ℕ) → AreBytes bs → Each (is_in class.Hex) (hexadecimal bs)
hexadecimal_hex [] h = tt
hexadecimal_hex (b ∷ bs) h = let pair = pair_of b h.0 in (pair.high, (pair.low, hexadecimal_hex bs h.1))

-- what digits spell, behind a number
abbrev spelled : List ℕ → ℕ → ℕ
spelled ds n = number_behind 16 n (map digit_of ds)

-- they spell what the bytes spell in base 256
hexadecimal_spelled : (bs : List ℕ) (n : ℕ) → AreBytes bs → spelled (hexadecimal bs) n ≡ number_behind 256 n bs
hexadecimal_spelled [] n h = refl
hexadecimal_spelled (b ∷ bs) n h =
    let step : (n * 16 + digit_of (figure (b / 16))) * 16 + digit_of (figure (b % 16)) ≡ n * 256 + b = omega (arith, (pair_of b h.0).spells) in
    ap (spelled (hexadecimal bs)) step ∙ hexadecimal_spelled bs (n * 256 + b) h.1

-- ---- without zeros in front

-- what is true of all digits is true of those left
significant_each : (p : ℕ → Bool) (ds : List ℕ) → Each p ds → Each p (significant ds)
significant_each p [] h = h
significant_each p (d ∷ []) h = h
significant_each p (d ∷ e ∷ ds) h = at (significant_each p (e ∷ ds)) (d == 48)
  where
    at : (Each p (e ∷ ds) → Each p (significant (e ∷ ds))) → (t : Bool) → Each p (if t then significant (e ∷ ds) else d ∷ e ∷ ds)
    at rec true = rec h.1
    at rec false = h

-- zeros in front spell nothing
significant_spelled : (ds : List ℕ) → spelled (significant ds) 0 ≡ spelled ds 0
significant_spelled [] = refl
significant_spelled (d ∷ []) = refl
significant_spelled (d ∷ e ∷ ds) = at (significant_spelled (e ∷ ds)) (d == 48) refl
  where
    at : spelled (significant (e ∷ ds)) 0 ≡ spelled (e ∷ ds) 0 → (t : Bool) → (d == 48) ≡ t → spelled (if t then significant (e ∷ ds) else d ∷ e ∷ ds) 0 ≡ spelled (d ∷ e ∷ ds) 0
    at rec true f = rec ∙ ap (λ (x : ℕ). spelled (x ∷ e ∷ ds) 0) (sym (eqb-true d 48 f))
    at rec false f = refl

-- a digit is left
significant_some : (d : ℕ) (ds : List ℕ) → (c : ℕ) × (cs : List ℕ) × (significant (d ∷ ds) ≡ c ∷ cs)
significant_some d [] = (d, [], refl)
significant_some d (e ∷ ds) = at (significant_some e ds) (d == 48)
  where
    at : (c : ℕ) × (cs : List ℕ) × (significant (e ∷ ds) ≡ c ∷ cs) → (t : Bool) → (c : ℕ) × (cs : List ℕ) × ((if t then significant (e ∷ ds) else d ∷ e ∷ ds) ≡ c ∷ cs)
    at rec true = rec
    at rec false = (d, e ∷ ds, refl)

-- ---- integers

-- hexadecimal digits are read to their end
digits_all : (ds : List ℕ) → Each (is_in class.Hex) ds → digits (is_in class.Hex) ds ≡ map digit_of ds
digits_all [] h = refl
digits_all (d ∷ ds) h = rw h.0 (ap (λ (x : List ℕ). digit_of d ∷ x) (digits_all ds h.1))

-- each of them is below 16
all_digits : (ds : List ℕ) → Each (is_in class.Hex) ds → all_below 16 (map digit_of ds) ≡ true
all_digits [] h = refl
all_digits (d ∷ ds) h = rw (lt-ltb (digit_of d) 16 (digit_small d h.0)) (all_digits ds h.1)

-- so they are read as the number that they spell, if it fits 64 bits
integer_spelled : (ds : List ℕ) (n : ℕ) → Each (is_in class.Hex) ds → spelled ds 0 ≡ n → n < 2 ^ 64 → integer_of 16 (digits (is_in class.Hex) ds) ≡ Some n
integer_spelled ds n h e l =
    ap (integer_of 16) (digits_all ds h)
    ∙ rw (all_digits ds h, e, lt-ltb n (2 ^ 64) l) refl

-- a cell, with the fewest digits
pub cell_digits : (a b c d : ℕ) → AreBytes (a ∷ b ∷ c ∷ d ∷ []) → Each (is_in class.Hex) (significant (hexadecimal (a ∷ b ∷ c ∷ d ∷ [])))
cell_digits a b c d h = significant_each (is_in class.Hex) (hexadecimal (a ∷ b ∷ c ∷ d ∷ [])) (hexadecimal_hex (a ∷ b ∷ c ∷ d ∷ []) h)

-- of which there are some
pub cell_some : (a b c d : ℕ) → (e : ℕ) × (t : List ℕ) × (significant (hexadecimal (a ∷ b ∷ c ∷ d ∷ [])) ≡ e ∷ t)
cell_some a b c d = significant_some (figure (a / 16)) (figure (a % 16) ∷ hexadecimal (b ∷ c ∷ d ∷ []))

-- they are read as the cell's number
pub cell_integer : (a b c d : ℕ) → AreBytes (a ∷ b ∷ c ∷ d ∷ []) →
    integer_of 16 (digits (is_in class.Hex) (significant (hexadecimal (a ∷ b ∷ c ∷ d ∷ [])))) ≡ Some (from_be_bytes w32 (a ∷ b ∷ c ∷ d ∷ []))
cell_integer a b c d h =
    let cell = a ∷ b ∷ c ∷ d ∷ [] in
    let whole : number_behind 256 0 (a ∷ b ∷ c ∷ d ∷ []) ≡ from_be_bytes w32 (a ∷ b ∷ c ∷ d ∷ []) = omega arith in
    integer_spelled (significant (hexadecimal cell)) (from_be_bytes w32 cell) (cell_digits a b c d h)
    (significant_spelled (hexadecimal cell) ∙ hexadecimal_spelled cell 0 h ∙ whole) (omega (arith, h.0, h.1.0, h.1.1.0, h.1.1.1.0))

-- a number of eight bytes, with all digits
eight_bytes : (n : ℕ) → AreBytes (to_be_bytes w64 n)
eight_bytes n = omega arith

-- eight bytes in base 256
eight_spelled : (a b c d e f g h : ℕ) → number_behind 256 0 (a ∷ b ∷ c ∷ d ∷ e ∷ f ∷ g ∷ h ∷ []) ≡ from_be_bytes w64 (a ∷ b ∷ c ∷ d ∷ e ∷ f ∷ g ∷ h ∷ [])
eight_spelled a b c d e f g h = omega arith

-- the digits of such a number
pub long_digits : (n : ℕ) → Each (is_in class.Hex) (hexadecimal (to_be_bytes w64 n))
long_digits n = hexadecimal_hex (to_be_bytes w64 n) (eight_bytes n)

-- they are read as the number
pub long_integer : (n : ℕ) → n < 2 ^ 64 → integer_of 16 (digits (is_in class.Hex) (hexadecimal (to_be_bytes w64 n))) ≡ Some n
long_integer n l =
    integer_spelled (hexadecimal (to_be_bytes w64 n)) n (long_digits n)
    (hexadecimal_spelled (to_be_bytes w64 n) 0 (eight_bytes n) ∙ eight_spelled _ _ _ _ _ _ _ _ ∙ from_be_bytes-to_be_bytes_8 n l) l
