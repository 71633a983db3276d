-- What holds of each tree.
use Rattle.std.specs.Prelude.{◌≡◌, ℕ, ◌<◌, ◌^◌, List, Some, map, drop, codes}
use Rattle.std.specs.Int.{w32, from_be_bytes}
use Rattle.std.specs.List.{AllByRecursion}
use Rattle.dt_model.specs.Meaning.{cell}
use Rattle.dt_model.specs.Names.{IsNodeName}
use Rattle.dt_model.specs.Tree.{value_of}
use Rattle.dt_model.specs.Valid.{AreDistinct, AreProperties, IsPhandle, IsReservation, phandle_values}
use Rattle.dt_flat.specs.Arena.{Arena, Slot, IsRooted, named_children, properties}
use Rattle.dt_flat.specs.Numbers.{Table, IsNumbered}

-- names are names, siblings differ in them, properties are properties, phandles are in range
pub record AreValid (slots : List Slot) : Type 0 where
  pub properties : AllByRecursion (λ n. AreProperties n.properties) slots
  pub named : AllByRecursion (λ n. IsNodeName n.name) (drop 1 slots)
  pub siblings : (p : ℕ) → AreDistinct (map (λ c. c.name) (named_children slots p))
  pub phandles : AllByRecursion (λ n. AllByRecursion IsPhandle (phandle_values n.properties)) slots

-- each phandle is the cell of its number, so that nodes of one number have one value
abbrev pub AreCells : List Slot → Type 0
AreCells slots = (p : ℕ) (value : List ℕ) → value_of (properties slots p) (codes "phandle") ≡ Some value → value ≡ cell (from_be_bytes w32 value)

-- an arena that a blob may hold, and its table of phandles
pub record IsSoundArena (a : Arena) (table : Table) : Type 0 where
  pub boot_cpu : a.boot_cpu < 2 ^ 32
  pub reservations : AllByRecursion IsReservation a.reservations
  pub rooted : IsRooted a.slots
  pub numbered : IsNumbered a.slots table
  pub valid : AreValid a.slots
  pub cells : AreCells a.slots
