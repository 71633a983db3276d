-- Bytes that are a blob, and their tree with its places, as a function of them.
use Rattle.std.specs.Prelude.{ℕ, List, drop}
use Rattle.dt_model.specs.Tree.{Reading}
use Rattle.dt_model.specs.Format.{Reads, IsWithin}
use Rattle.dt_model.specs.Checks.{number, counted, strings_of, structure_of}
use Rattle.dt_read.specs.Marks.{Root}
use Rattle.dt_read.specs.Pairs.{pairs_of}
use Rattle.dt_read.specs.Parsing.{tree_in}
use Rattle.dt_trees.specs.Placed.{PlacedTree}

-- the bytes are a blob within the limits
abbrev pub IsBlob : List ℕ → Type 0
IsBlob bytes = (t : Reading) × Reads bytes t × IsWithin bytes t

-- the root that the structure block of some bytes spells
abbrev pub root_of : List ℕ → Root
root_of bytes = tree_in (strings_of bytes) (number bytes 8) (structure_of bytes)

-- the tree of some bytes, with the places of its nodes: it has junk values where they are no blob
unfoldable pub placed_of : List ℕ → PlacedTree
placed_of bytes = record {
  boot_cpu = number bytes 28;
  reservations = pairs_of (drop (number bytes 16) (counted bytes));
  place = (root_of bytes).place;
  properties = (root_of bytes).properties;
  children = (root_of bytes).children;
}
