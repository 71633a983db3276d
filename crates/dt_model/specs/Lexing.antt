-- Which token is at the front of some bytes, and how many bytes it takes (Devicetree Specification v0.4, chapter 5.4).
use Rattle.std.specs.Prelude.{ℕ, zero, suc, ◌+◌, ◌*◌, ◌/◌, List, [], ◌∷◌, length, take, drop, Option, Some, None, nat_le, ◌==◌, if◌then◌else◌}
use Rattle.std.specs.Option.{option_map}
use Rattle.dt_model.specs.Format.{Token, begin_node, end_node, prop, nop, end_tree, word_at}

-- a step, and the next one with its value, where it gives one
infixl 10 ◌>>=◌
abbrev pub ◌>>=◌ : {A B : Type 0} → Option A → (A → Option B) → Option B
None >>= f = None
(Some x) >>= f = f x

-- the least multiple of four that isn't below a length
abbrev pub padded : ℕ → ℕ
padded size = (size + 3) / 4 * 4

-- the text up to the first NUL, where there is one
abbrev pub text_in : List ℕ → Option (List ℕ)
text_in [] = None
text_in (zero ∷ bytes) = Some []
text_in (suc byte ∷ bytes) = option_map (λ text. suc byte ∷ text) (text_in bytes)

-- the token of so many bytes, where the bytes reach to the end of its padding
abbrev pub padded_token : ℕ → List ℕ → Token → Option (Token × ℕ)
padded_token size bytes token = if nat_le (padded size) (length bytes) then Some (token, padded size) else None

-- the beginning of a node, behind its tag
unfoldable pub begin_in : List ℕ → Option (Token × ℕ)
begin_in bytes = text_in (drop 4 bytes) >>= λ name. padded_token (4 + length name + 1) bytes (begin_node name)

-- a property, behind its tag
unfoldable pub property_in : List ℕ → List ℕ → Option (Token × ℕ)
property_in strings bytes =
    word_at bytes 4 >>= λ size.
    word_at bytes 8 >>= λ offset.
    text_in (drop offset strings) >>= λ name.
    padded_token (12 + size) bytes (prop (record { name = name; value = take size (drop 12 bytes) }))

-- the token at the front of the bytes, with the number of bytes that it takes
unfoldable pub token_in : List ℕ → List ℕ → Option (Token × ℕ)
token_in strings bytes =
    word_at bytes 0 >>= λ tag.
    if tag == 1 then begin_in bytes
    else if tag == 2 then Some (end_node, 4)
    else if tag == 3 then property_in strings bytes
    else if tag == 4 then Some (nop, 4)
    else if tag == 9 then Some (end_tree, 4)
    else None
