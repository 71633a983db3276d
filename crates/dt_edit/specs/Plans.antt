-- Edits before they are carried out.
use Rattle.std.specs.Prelude.{◌≡◌, ℕ, ◌+◌, ◌<◌, ◌≤◌, List, [], ◌++◌, length, drop, Option, Some, None}
use Rattle.dt_model.specs.Checks.{number, strings_of, structure_of}
use Rattle.dt_model.specs.Format.{reservation_block, word}
use Rattle.dt_model.specs.Lexing.{padded}
use Rattle.dt_model.specs.Limits.{most_bytes}
use Rattle.dt_model.specs.Names.{Name}
use Rattle.dt_model_format.specs.Strings.{place_in, terminated}
use Rattle.dt_read.specs.Checked.{placed_of}
use Rattle.dt_read.specs.Cuts.{IsPropertyCut, IsEndCut}
use Rattle.dt_write.specs.Written.{assembled}
use Rattle.dt_edit.specs.declared.layout.Layout.{Layout}
use Rattle.dt_edit.specs.declared.children.NodePlan.{NodePlan}
use Rattle.dt_edit.specs.declared.properties.PropertyPlan.{PropertyPlan}
use Rattle.dt_edit.specs.Editable.{name_size, size_with_node, Fits}
use Rattle.dt_edit.specs.Moving.{put}

-- the blocks of a blob that can be edited are where this says
pub record IsLayout (bytes : List ℕ) (l : Layout) : Type 0 where
  pub boot_cpu : l.boot_cpu ≡ number bytes 28
  pub structure_at : l.structure_at ≡ 40 + length (reservation_block (placed_of bytes).reservations)
  pub structure : l.structure ≡ length (structure_of bytes)
  pub strings : l.strings ≡ length (strings_of bytes)
  pub total : l.structure_at + l.structure + l.strings ≡ number bytes 4

-- the strings that a name brings: none where it is held
abbrev pub brought_by : Option ℕ → Name → List ℕ
brought_by None name = terminated name
brought_by (Some place) name = []

abbrev pub added_name : List ℕ → Name → List ℕ
added_name bytes name = brought_by (place_in (strings_of bytes) name) name

-- where the strings hold a name, with what it brings
abbrev pub place_or : Option ℕ → ℕ → ℕ
place_or None end = end
place_or (Some place) end = place

abbrev pub name_offset : List ℕ → Name → ℕ
name_offset bytes name = place_or (place_in (strings_of bytes) name) (length (strings_of bytes))

-- how long a blob is with the reservations of another, a structure block and strings
abbrev pub size_of_blocks : (old structure strings : List ℕ) → ℕ
size_of_blocks old structure strings = 40 + length (reservation_block (placed_of old).reservations) + length structure + length strings

-- bytes at whose front is the blob of others, with another structure block and other strings; those behind it are as they were
abbrev pub HasOtherBlocks : (old new structure strings : List ℕ) → Type 0
HasOtherBlocks old new structure strings =
    new ≡ assembled (number old 28) (reservation_block (placed_of old).reservations) structure strings ++ drop (size_of_blocks old structure strings) old

-- a plan by which a node's property of a name is set
pub record IsPropertyPlan (bytes : List ℕ) (node : ℕ) (name : Name) (p : PropertyPlan) : Type 0 where
  pub layout : IsLayout bytes p.layout
  pub cut : IsPropertyCut bytes node name p.cut.at p.cut.size
  pub place : p.place ≡ place_in (strings_of bytes) name

-- there is room for what a plan brings
pub record HasPropertyRoom (bytes : List ℕ) (p : PropertyPlan) (name : Name) (value : List ℕ) : Type 0 where
  pub layout : IsLayout bytes p.layout
  pub inside : p.cut.at + p.cut.size ≤ length (structure_of bytes)
  pub place : p.place ≡ place_in (strings_of bytes) name
  pub short : length value ≤ most_bytes
  pub room : number bytes 4 + padded (12 + length value) + name_size (place_in (strings_of bytes) name) name ≤ length bytes + p.cut.size
  pub limit : number bytes 4 + padded (12 + length value) + name_size (place_in (strings_of bytes) name) name ≤ most_bytes + p.cut.size

-- Four bytes are a number's, and all others are the same: those at an offset of the value of a node's property, which is 12 bytes behind the first one of
-- its token (Devicetree Specification v0.4, 5.4.1).
pub record IsPatched (old new : List ℕ) (node : ℕ) (name : Name) (offset n : ℕ) : Type 0 where
  pub at : ℕ
  pub size : ℕ
  pub cut : IsPropertyCut old node name at size
  pub inside : number old 8 + at + 12 + offset + 4 ≤ length old
  pub is : new ≡ put (number old 8 + at + 12 + offset) (word n) old

-- a plan by which a node gets a child
pub record IsNodePlan (bytes : List ℕ) (node : ℕ) (p : NodePlan) : Type 0 where
  pub layout : IsLayout bytes p.layout
  pub cut : IsEndCut bytes node p.cut

pub record HasNodeRoom (bytes : List ℕ) (p : NodePlan) (name : Name) : Type 0 where
  pub layout : IsLayout bytes p.layout
  pub inside : p.cut ≤ length (structure_of bytes)
  pub short : length name < 256
  pub fits : Fits bytes (size_with_node bytes name)
