-- Bytes in hexadecimal, and zeros in front.
use Rattle.std.proofs.Common.{◌≡◌, ℕ, ◌/◌, ◌%◌, ◌≤◌, Bool, true, false, List, [], ◌∷◌, length, refl, ap, arith}
use Rattle.std.specs.Prelude.{Result, Ok, Err, IsOk, OnOk, slice_index}
use Rattle.std.specs.Bool.{OnFalse}
use Rattle.hex.specs.Hex.{encode_with, encode_lower, lower_digits}
use Rattle.dt_model.specs.Printed.{hexadecimal, significant}

-- the digits of the crate `hex` are those of the text
pub encoded : (bytes : List ℕ) → encode_lower bytes ≡ hexadecimal bytes
unfolding encode_with
encoded [] = refl
encoded (b ∷ bytes) = ap (λ (l : List ℕ). slice_index lower_digits (b / 16) ∷ slice_index lower_digits (b % 16) ∷ l) (encoded bytes)

pub on_ok : {T E : Type 0} (r : Result T E) (P : Type 0) → IsOk r → OnOk r P → P
on_ok (Ok x) P is h = h
on_ok (Err x) P is h = cc

pub on_any : (b : Bool) (P : Type 0) → P → OnFalse b P
on_any true P p = tt
on_any false P p = p

-- one digit stays
pub one_digit : (l : List ℕ) → length l ≤ 1 → significant l ≡ l
one_digit [] short = refl
one_digit (d ∷ []) short = refl
one_digit (d ∷ e ∷ l) short = absurd (omega arith)
