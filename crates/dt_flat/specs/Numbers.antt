-- Which node has a number.
use Rattle.std.specs.Prelude.{◌≡◌, ℕ, ◌<◌, ◌≤◌, ◌==◌, if◌then◌else◌, List, Option, Some, None, nat_eq, Bool, false}
use Rattle.std.specs.Int.{w32, from_be_bytes}
use Rattle.std.specs.Map.{lookup}
use Rattle.indexmap.specs.IndexMap.{IndexMap, spare}
use Rattle.dt_model.specs.Valid.{IsPhandle}
use Rattle.dt_names.specs.declared.seed.Seed.{Seed}
use Rattle.dt_flat.specs.Arena.{Slot, phandle_at}

-- the node of each number, and how many more fit without memory
pub record Table : Type 0 where
  pub entries : List (ℕ × ℕ)
  pub room : ℕ

-- the table that a map is
abbrev pub table_of : IndexMap ℕ ℕ Seed → Table
table_of map = record { entries = map.entries; room = spare map }

-- the node of a number
abbrev pub holder : Table → ℕ → Option ℕ
holder table n = lookup (nat_eq n) table.entries

-- is it this number?
abbrev pub is_number : Option ℕ → ℕ → Bool
is_number None n = false
is_number (Some m) n = n == m

-- old, with no node of the number
abbrev pub without : Table → ℕ → ℕ → Option ℕ
without old number n = if n == number then None else holder old n

-- old, with the number given to a node in the place of the one before
abbrev pub given : Table → Option ℕ → ℕ → ℕ → ℕ → Option ℕ
given old before number node n =
    if n == number then Some node else (if is_number before n then None else holder old n)

-- each of these numbers has a node
abbrev pub AreTaken : Table → ℕ → ℕ → Type 0
AreTaken table from end = (n : ℕ) → from ≤ n → n < end → (i : ℕ) × (holder table n ≡ Some i)

-- the least number from 1 on that no node has
pub record IsFirstFree (table : Table) (n : ℕ) : Type 0 where
  pub above : 0 < n
  pub free : holder table n ≡ None
  pub taken : AreTaken table 1 n

-- a node may be given the number in a value: it is in range, and no other node has it
pub record MayGive (table : Table) (node : ℕ) (value : List ℕ) : Type 0 where
  pub valid : IsPhandle value
  pub own : (i : ℕ) → holder table (from_be_bytes w32 value) ≡ Some i → i ≡ node

-- the table has each number of a node, and no others
pub record IsNumbered (slots : List Slot) (table : Table) : Type 0 where
  pub sound : (n i : ℕ) → holder table n ≡ Some i → phandle_at slots i ≡ Some n
  pub whole : (n i : ℕ) → phandle_at slots i ≡ Some n → holder table n ≡ Some i
