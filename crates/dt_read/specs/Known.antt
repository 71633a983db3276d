-- Offsets of the strings block at which names of properties stand.
use Rattle.std.specs.Prelude.{◌≡◌, ◌≢◌, ℕ, ◌+◌, ◌<◌, ◌≤◌, true, List, length, take, drop, Some, slice_index, slice_index_or}
use Rattle.dt_model.specs.Lexing.{text_in}
use Rattle.dt_model.specs.Names.{Name, is_property_name}
use Rattle.dt_read.specs.declared.known.KnownText.{KnownText}

-- a property's name is there
abbrev pub HasNameAt : List ℕ → ℕ → Type 0
HasNameAt strings offset = (name : Name) × (text_in (drop offset strings) ≡ Some name) × (is_property_name name ≡ true)

-- each of these is such an offset, but for the largest number of 32 bits, which is none
abbrev pub AreKnown : List ℕ → List ℕ → Type 0
AreKnown strings offsets = (i : ℕ) → i < 256 → slice_index offsets i ≢ 4294967295 → HasNameAt strings (slice_index offsets i)

-- the text at its offset has its length
pub record IsKnownText (strings : List ℕ) (t : KnownText) : Type 0 where
  pub within : t.offset + t.len ≤ length strings
  pub text : text_in (drop t.offset strings) ≡ Some (take t.len (drop t.offset strings))

-- each of these is such a text, but for those at the largest number of 32 bits, which are none
abbrev pub AreKnownTexts : List ℕ → List KnownText → Type 0
AreKnownTexts strings texts =
    (i : ℕ) → i < 256 → (slice_index_or texts i (record { offset = 4294967295; len = 0 })).offset ≢ 4294967295 → IsKnownText strings (slice_index_or texts i (record { offset = 4294967295; len = 0 }))
