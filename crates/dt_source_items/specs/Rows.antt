-- What rows say over the bytes and the references of all values.
use Rattle.std.specs.Prelude.{◌≡◌, ◌≤◌, ◌<◌, ◌+◌, ℕ, List, [], ◌∷◌, Option, Some, None, drop, length, map, slice_get}
use Rattle.std.specs.List.{AllByRecursion, between}
use Rattle.dt_model.specs.Source as model
use Rattle.dt_model.specs.Source.{Part, Place, root, block, delete_node, child, label, property, delete_property, delete_child, close}
use Rattle.dt_source_items.specs.declared.source.Piece.{Piece}
use Rattle.dt_source_items.specs.declared.items.Bare.{Bare}
use Rattle.dt_source_items.specs.declared.items.Bare.TheVariants as bare
use Rattle.dt_source_items.specs.declared.source.Reference.{Reference}
use Rattle.dt_source_items.specs.declared.items.Naming.{Naming}
use Rattle.dt_source_items.specs.declared.items.Naming.TheVariants as naming
use Rattle.dt_source_items.specs.declared.items.Span.{Span}
use Rattle.dt_source_items.specs.declared.items.Row.{Row}
use Rattle.dt_source_items.specs.declared.items.Row.TheVariants as row
use Rattle.dt_source_items.specs.Gathered.{Gathered}
use Rattle.dt_source_items.specs.Said.{reference_of, parts_said}

abbrev pub bare_said : Bare → Place
bare_said bare.Root = root
bare_said (bare.Block r) = block (reference_of r)
bare_said (bare.DeleteNode r) = delete_node (reference_of r)
bare_said (bare.Child n) = child n
bare_said (bare.Label l) = label l
bare_said (bare.DeleteProperty n) = delete_property n
bare_said (bare.DeleteChild n) = delete_child n
bare_said bare.Close = close

-- a node is named by a reference
abbrev pub naming_said : Naming → model.Reference → Place
naming_said naming.Block r = block r
naming_said naming.DeleteNode r = delete_node r

-- the parts of the value of a span
abbrev pub span_said : List Piece → List ℕ → Span → List Part
span_said pieces bytes s = parts_said (between s.first_piece s.end_piece pieces) (between s.first_byte s.end_byte bytes)

-- what is kept at a place; nothing is said of a place where nothing is kept
abbrev pub named_said : Naming → Option Reference → Place
named_said n None = close
named_said n (Some r) = naming_said n (reference_of r)

abbrev pub held_said : List Piece → List ℕ → Option Span → List Part
held_said pieces bytes None = []
held_said pieces bytes (Some s) = span_said pieces bytes s

abbrev pub row_said : List Reference → List Span → List Piece → List ℕ → Row → Place
row_said named spans pieces bytes row.Root = root
row_said named spans pieces bytes (row.Named n i) = named_said n (slice_get named i)
row_said named spans pieces bytes (row.Child n) = child n
row_said named spans pieces bytes (row.Label l) = label l
row_said named spans pieces bytes (row.DeleteProperty n) = delete_property n
row_said named spans pieces bytes (row.DeleteChild n) = delete_child n
row_said named spans pieces bytes row.Close = close
row_said named spans pieces bytes (row.Flag n) = property n []
row_said named spans pieces bytes (row.Property i n) = property n (held_said pieces bytes (slice_get spans i))

-- a row that has no place, and what it says over anything
abbrev pub IsPlain : Row → Type 0
IsPlain (row.Named n i) = ⊥
IsPlain (row.Property i n) = ⊥
IsPlain r = Unit {0}

abbrev pub plain_said : Row → Place
plain_said r = row_said [] [] [] [] r

abbrev pub gathered : List Row → List Reference → List Span → List Piece → List ℕ → ℕ → ℕ → Gathered
gathered rows named spans pieces bytes piece byte =
    record { places = map (row_said named spans pieces bytes) rows; value = parts_said (drop piece pieces) (drop byte bytes) }

-- how many bytes come before the last reference
abbrev pub bytes_before : List Piece → ℕ
bytes_before [] = 0
bytes_before (p ∷ ps) = p.before + bytes_before ps

-- a row has a place among so many references and spans
abbrev pub IsWithin : ℕ → ℕ → Row → Type 0
IsWithin named spans (row.Named n i) = i < named
IsWithin named spans (row.Property i n) = i < spans
IsWithin named spans r = Unit {0}

-- a span lies within so many pieces and bytes
abbrev pub IsSpanWithin : ℕ → ℕ → Span → Type 0
IsSpanWithin pieces bytes s = (s.first_piece ≤ s.end_piece) × (s.end_piece ≤ pieces) × (s.first_byte ≤ s.end_byte) × (s.end_byte ≤ bytes)

-- the rows' places are some, the spans lie within the pieces and the bytes, and the last value's pieces within its bytes, which begin at
-- these places
pub record AreRows (rows : List Row) (named : List Reference) (spans : List Span) (pieces : List Piece) (bytes : List ℕ) (piece byte referred : ℕ) : Type 0 where
  pub within : AllByRecursion (IsWithin (length named) (length spans)) rows
  pub spanned : AllByRecursion (IsSpanWithin (length pieces) (length bytes)) spans
  pub begun : piece ≤ length pieces
  pub referred_at : byte + bytes_before (drop piece pieces) ≡ referred
  pub inside : referred ≤ length bytes
