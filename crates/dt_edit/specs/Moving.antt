-- What edits write.
use Rattle.std.specs.Prelude.{◌≡◌, ℕ, ◌+◌, ◌-◌, List, ◌++◌, length, take, drop}
use Rattle.dt_model.specs.Format.{word}
use Rattle.dt_model.specs.Names.{Name}
use Rattle.dt_model_format.specs.Strings.{terminated}
use Rattle.dt_write.specs.Written.{zeros_after}

-- bytes with others written over them from a place on
abbrev pub put : ℕ → List ℕ → List ℕ → List ℕ
put at own bytes = take at bytes ++ (own ++ drop (at + length own) bytes)

-- PROP, the length of the value, the offset of the name, the value, and zeros up to a multiple of four (Devicetree Specification v0.4, 5.4)
abbrev pub property_bytes : ℕ → List ℕ → List ℕ
property_bytes offset value = word 3 ++ (word (length value) ++ (word offset ++ (value ++ zeros_after (length value))))

-- BEGIN_NODE, the name and a NUL, and zeros up to a multiple of four (5.4)
abbrev pub begin_bytes : Name → List ℕ
begin_bytes name = word 1 ++ (terminated name ++ zeros_after (length name + 1))

-- the same, and END_NODE
abbrev pub node_bytes : Name → List ℕ
node_bytes name = begin_bytes name ++ word 2

-- bytes in which so many at a place made room for others, with what was behind them, up to an end, moved there, and the rest as it was
pub record HasRoomMade (old new : List ℕ) (at size own end : ℕ) : Type 0 where
  pub gap : List ℕ
  pub wide : length gap ≡ own
  pub is : new ≡ take at old ++ (gap ++ (drop (at + size) (take end old) ++ drop (end + own - size) old))

-- bytes in which others take the place of so many, with what was behind them, up to an end, moved behind those, and the rest as it was
abbrev pub IsSpliced : (old new own : List ℕ) (at size end : ℕ) → Type 0
IsSpliced old new own at size end = new ≡ take at old ++ (own ++ (drop (at + size) (take end old) ++ drop (end + length own - size) old))

abbrev pub three_blocks : (reservations structure strings : List ℕ) → List ℕ
three_blocks reservations structure strings = reservations ++ (structure ++ strings)
