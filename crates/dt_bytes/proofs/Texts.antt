-- The first NUL ends the text at the front of some bytes.
use Rattle.std.proofs.Common.{◌≡◌, ℕ, zero, suc, ◌<◌, List, [], ◌∷◌, length, take, Option, Some, None, refl, sym, ap, arith}
use Rattle.std.specs.Option.{option_map}
use Rattle.std.proofs.lemmas.Bool.{eqb-true}
use Rattle.dt_model.specs.Lexing.{text_in}
use Rattle.memchr.specs.Find.{Passes, IsFirstByte, Nowhere, is_byte}

no_text : (bytes : List ℕ) → Nowhere (Passes (is_byte 0) bytes) 0 (length bytes) → text_in bytes ≡ None
no_text [] none = refl
no_text (zero ∷ bytes) none = absurd (none 0 (omega arith) (omega arith) refl)
no_text (suc byte ∷ bytes) none =
    ap (option_map (λ text. suc byte ∷ text)) (no_text bytes (λ k low high. none (suc k) (omega arith) (omega arith)))

text_to : (bytes : List ℕ) (len : ℕ) → len < length bytes → Nowhere (Passes (is_byte 0) bytes) 0 len → Passes (is_byte 0) bytes len
    → text_in bytes ≡ Some (take len bytes)
text_to [] len within none here = absurd (omega arith)
text_to (zero ∷ bytes) zero within none here = refl
text_to (zero ∷ bytes) (suc len) within none here = absurd (none 0 (omega arith) (omega arith) refl)
text_to (suc byte ∷ bytes) zero within none here = let zero_is : suc byte ≡ 0 = eqb-true (suc byte) 0 here in absurd (omega arith)
text_to (suc byte ∷ bytes) (suc len) within none here =
    ap (option_map (λ text. suc byte ∷ text))
    (text_to bytes len (omega arith) (λ k low high. none (suc k) (omega arith) (omega arith)) here)

pub text_found : (bytes : List ℕ) (place : Option ℕ) → IsFirstByte (is_byte 0) bytes place
    → option_map (λ len. take len bytes) place ≡ text_in bytes
text_found bytes None none = sym (no_text bytes none)
text_found bytes (Some len) first = sym (text_to bytes len first.0.high first.0.before first.1)
