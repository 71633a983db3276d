-- The lines of a blob.
use Rattle.std.specs.Prelude.{◌≡◌, ℕ, List}
use Rattle.std.specs.List.{concat}
use Rattle.dt_model.specs.Path.{Path}
use Rattle.dt_model.specs.Tree.{Reading, nodes_of}
use Rattle.dt_model.specs.Format.{Reads, IsWithin}
use Rattle.dt_model.specs.Checks.{BlobFault, IsFirstFault}
use Rattle.dt_names.specs.Fault.{placeless}
use Rattle.dt_names.specs.Sink.{Taken, IsUntouched, IsRefused}
use Rattle.dt_names.specs.declared.fault.Fault.{Fault}
use Rattle.dt_names.specs.declared.fault.FaultKind.TheVariants.{NoMemory}
use Rattle.dt_read.specs.Kinds.{kind_of}
use Rattle.dt_resolve_lines.specs.AllLines.{regions_told, routes_told, AreFrom, AreBegun, AreOfAll, AreBegunOfAll}
use Rattle.dt_resolve_lines.specs.declared.listing.Listing.{Listing}
use Rattle.dt_resolve_lines.specs.declared.listing.Listing.TheVariants.{Regions, Routes}

-- the lines of a node
abbrev pub AreOwn : Listing → Reading → Path → List (List ℕ) → Type 0
AreOwn Regions t p = AreFrom (regions_told t p) 0
AreOwn Routes t p = AreFrom (routes_told t p) 0

-- some of them, the first ones
abbrev pub AreOwnBegun : Listing → Reading → Path → List (List ℕ) → Type 0
AreOwnBegun Regions t p = AreBegun (regions_told t p) 0
AreOwnBegun Routes t p = AreBegun (routes_told t p) 0

-- the lines of a tree: those of its nodes in preorder
abbrev pub AreAll : Listing → Reading → List (List ℕ) → Type 0
AreAll listing t = AreOfAll (AreOwn listing t) (nodes_of t)

abbrev pub AreAllBegun : Listing → Reading → List (List ℕ) → Type 0
AreAllBegun listing t = AreBegunOfAll (AreOwn listing t) (AreOwnBegun listing t) (nodes_of t)

-- bytes are a blob, and the lines are those of its tree
pub record AreLinesOf (listing : Listing) (bytes : List ℕ) (lines : List (List ℕ)) : Type 0 where
  pub tree : Reading
  pub reads : Reads bytes tree
  pub within : IsWithin bytes tree
  pub are : AreAll listing tree lines

-- some of them, the first ones
pub record AreFirstOf (listing : Listing) (bytes : List ℕ) (lines : List (List ℕ)) : Type 0 where
  pub tree : Reading
  pub reads : Reads bytes tree
  pub within : IsWithin bytes tree
  pub are : AreAllBegun listing tree lines

-- Why not all lines were written: the bytes are no blob, or memory was refused, and nothing was written; or the sink failed, and took a
-- front of them.
pub data WhyNotListed (listing : Listing) (bytes : List ℕ) (old new : Taken) (fault : Fault) : Type 0 where
  no_blob : (f : BlobFault) → fault.kind ≡ kind_of f → IsFirstFault bytes f fault.at → IsUntouched old new → WhyNotListed listing bytes old new fault
  no_memory : fault ≡ placeless NoMemory → IsUntouched old new → WhyNotListed listing bytes old new fault
  cut : (lines : List (List ℕ)) → AreFirstOf listing bytes lines → IsRefused fault (concat lines) old new → WhyNotListed listing bytes old new fault
