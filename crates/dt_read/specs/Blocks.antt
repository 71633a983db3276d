-- The blocks of a blob, and its tree.
use Rattle.std.specs.Prelude.{◌≡◌, ℕ, ◌+◌, ◌<◌, ◌^◌, List, ◌++◌, length, drop, None}
use Rattle.std.specs.List.{AllByRecursion}
use Rattle.dt_model.specs.Valid.{IsReservation}
use Rattle.dt_model.specs.Format.{reservation_block}
use Rattle.dt_model.specs.Checks.{header_fault, number, counted, strings_of, structure_of, AreApart}
use Rattle.dt_read.specs.declared.blocks.Blocks.{Blocks}
use Rattle.dt_read.specs.Growth.{MayCopy}
use Rattle.dt_trees.specs.Placed.{PlacedTree, forest_of, reading_of}
use Rattle.dt_read.specs.Marks.{Root}
use Rattle.dt_read.specs.Order.{HasRisingPlaces}
use Rattle.dt_read.specs.Pairs.{pairs_of}

-- the bytes begin with these reservations and a pair of zeros
pub record Reserves (bytes : List ℕ) (reservations : List (ℕ × ℕ)) : Type 0 where
  pub behind : List ℕ
  pub whole : bytes ≡ reservation_block reservations ++ behind
  pub valid : AllByRecursion IsReservation reservations

-- these are the blocks of the bytes, whose header is right and whose reservations end
pub record AreBlocks (bytes : List ℕ) (b : Blocks) : Type 0 where
  pub passes : header_fault bytes ≡ None
  pub reservations : b.reservations.now ≡ drop (number bytes 16) (counted bytes)
  pub reserved : Reserves b.reservations.now (pairs_of b.reservations.now)
  pub strings : b.strings.now ≡ strings_of bytes
  pub at : b.at ≡ number bytes 8
  pub block : b.block.now ≡ structure_of bytes
  pub boot_cpu : b.boot_cpu ≡ number bytes 28
  pub small : b.at + length b.block.now < 2 ^ 32

-- the root of a tree
abbrev pub whole_of : PlacedTree → Root
whole_of t = record { place = t.place; properties = t.properties; children = t.children }

-- places rise in preorder, names are names, and differ, and the tree may be copied
pub record IsWellPlaced (t : PlacedTree) : Type 0 where
  pub rising : HasRisingPlaces (whole_of t)
  pub apart : AreApart t.properties (forest_of t.children)
  pub copy : MayCopy (reading_of t)
