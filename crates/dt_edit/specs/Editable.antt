-- Blobs that are edited where they lie, at the front of some bytes: what they are, how long they become, and why they aren't changed.
use Rattle.std.specs.Prelude.{◌≡◌, ◌⊎◌, ℕ, ◌+◌, ◌-◌, ◌<◌, ◌≤◌, true, false, List, [], ◌∷◌, ◌++◌, length, take, Option, Some, None, unwrap_or}
use Rattle.dt_model.specs.Applied.{with_cell}
use Rattle.dt_model.specs.Checks.{number, strings_of, structure_of}
use Rattle.dt_model.specs.Format.{reservation_block}
use Rattle.dt_model.specs.Lexing.{padded}
use Rattle.dt_model.specs.Limits.{most_bytes, most_names, most_nodes}
use Rattle.dt_model.specs.Names.{Name}
use Rattle.dt_model.specs.Path.{Path}
use Rattle.dt_model.specs.Tree.{Reading, stands_in, value_in}
use Rattle.dt_model.specs.Valid.{node_count}
use Rattle.dt_model_format.specs.Strings.{place_in}
use Rattle.dt_names.specs.declared.fault.FaultKind.{FaultKind}
use Rattle.dt_names.specs.declared.fault.FaultKind.TheVariants.{NoMemory, Limit, BlobPhandle, Duplicate}
use Rattle.dt_overlay_base.specs.Targets.{MaySetAt}
use Rattle.dt_read.specs.Checked.{IsBlob, placed_of}
use Rattle.dt_read.specs.Cuts.{property_size}
use Rattle.dt_trees.specs.Placed.{path_at, reading_of}
use Rattle.dt_write.specs.Written.{assembled}

-- the tree of some bytes, without places
abbrev pub reading_in : List ℕ → Reading
reading_in bytes = reading_of (placed_of bytes)

-- the path of a node of some bytes
abbrev pub path_in : List ℕ → ℕ → Path
path_in bytes node = path_at (placed_of bytes) node

-- At the front of the bytes is a blob whose blocks follow one another as a writer puts them, with nothing between: the header, the reservations, the
-- structure and the strings.
pub record IsEditable (bytes : List ℕ) : Type 0 where
  pub blob : IsBlob bytes
  pub whole : take (number bytes 4) bytes
      ≡ assembled (number bytes 28) (reservation_block (placed_of bytes).reservations) (structure_of bytes) (strings_of bytes)

-- how many bytes strings grow by when a name is used: none where they hold it
abbrev pub name_size : Option ℕ → Name → ℕ
name_size None name = length name + 1
name_size (Some place) name = 0

-- how long a blob is with its blocks one behind the other
abbrev pub opened_size : List ℕ → ℕ
opened_size bytes = 40 + length (reservation_block (placed_of bytes).reservations) + length (structure_of bytes) + length (strings_of bytes)

-- a blob of a size fits so many bytes, and the limit
pub record FitsIn (bound size : ℕ) : Type 0 where
  pub room : size ≤ bound
  pub limit : size ≤ most_bytes

-- and the bytes that there are
abbrev pub Fits : List ℕ → ℕ → Type 0
Fits bytes size = FitsIn (length bytes) size

-- At the front of the bytes is such a blob, and nothing is behind it.
pub record IsWhole (bytes : List ℕ) : Type 0 where
  pub editable : IsEditable bytes
  pub whole : number bytes 4 ≡ length bytes

-- a blob isn't copied: there is no room for it
abbrev pub WhyNotOpened : FaultKind → List ℕ → ℕ → Type 0
WhyNotOpened Limit bytes size = ¬ Fits bytes size
WhyNotOpened _ bytes size = ⊥

-- the same where bytes may become as many as a blob may have
abbrev pub WhyNotOwned : FaultKind → ℕ → Type 0
WhyNotOwned NoMemory size = size ≤ most_bytes
WhyNotOwned Limit size = ¬ (size ≤ most_bytes)
WhyNotOwned _ size = ⊥

-- ---- a property

-- how long the blob is once a node's property is set
abbrev pub size_with_value : List ℕ → ℕ → Name → List ℕ → ℕ
size_with_value bytes node name value =
    number bytes 4 + property_size (Some value) + name_size (place_in (strings_of bytes) name) name
    - property_size (value_in (reading_in bytes) (path_in bytes node) name)

-- the property is set, where there are so many bytes
pub record MaySetWithin (room : ℕ) (bytes : List ℕ) (node : ℕ) (name : Name) (value : List ℕ) : Type 0 where
  pub may : MaySetAt (reading_in bytes) (path_in bytes node) name value
  pub fits : FitsIn room (size_with_value bytes node name value)

abbrev pub MaySetIn : List ℕ → ℕ → Name → List ℕ → Type 0
MaySetIn bytes node name value = MaySetWithin (length bytes) bytes node name value

-- it isn't: it may not be; or else there is no room for it
abbrev pub WhyNotSetWithin : ℕ → FaultKind → List ℕ → ℕ → Name → List ℕ → Type 0
WhyNotSetWithin room BlobPhandle bytes node name value = ¬ MaySetAt (reading_in bytes) (path_in bytes node) name value
WhyNotSetWithin room Limit bytes node name value =
    MaySetAt (reading_in bytes) (path_in bytes node) name value × ¬ FitsIn room (size_with_value bytes node name value)
WhyNotSetWithin room _ bytes node name value = ⊥

abbrev pub WhyNotSetIn : FaultKind → List ℕ → ℕ → Name → List ℕ → Type 0
WhyNotSetIn kind bytes node name value = WhyNotSetWithin (length bytes) kind bytes node name value

-- the same where bytes may become as many as a blob may have: memory was refused for a property that may be set; or else it isn't for those reasons
abbrev pub WhyNotSetOwned : FaultKind → List ℕ → ℕ → Name → List ℕ → Type 0
WhyNotSetOwned NoMemory bytes node name value = MaySetWithin most_bytes bytes node name value
WhyNotSetOwned kind bytes node name value = WhyNotSetWithin most_bytes kind bytes node name value

-- ---- a cell

-- the node's property of a name has four bytes at an offset
abbrev pub HasCellAt : List ℕ → ℕ → Name → ℕ → Type 0
HasCellAt bytes node name offset = (value : List ℕ) × (value_in (reading_in bytes) (path_in bytes node) name ≡ Some value) × (offset + 4 ≤ length value)

-- the property's value with a number in the cell at an offset
abbrev pub value_patched : List ℕ → ℕ → Name → (offset n : ℕ) → List ℕ
value_patched bytes node name offset n = with_cell (unwrap_or (value_in (reading_in bytes) (path_in bytes node) name) []) offset n

-- the cell is patched
abbrev pub MayPatchIn : List ℕ → ℕ → Name → (offset n : ℕ) → Type 0
MayPatchIn bytes node name offset n = MaySetAt (reading_in bytes) (path_in bytes node) name (value_patched bytes node name offset n)

-- it isn't: the property may not have that value
abbrev pub WhyNotPatchedIn : FaultKind → List ℕ → ℕ → Name → (offset n : ℕ) → Type 0
WhyNotPatchedIn BlobPhandle bytes node name offset n = ¬ MayPatchIn bytes node name offset n
WhyNotPatchedIn _ bytes node name offset n = ⊥

-- ---- a child

-- how long the blob is once a node has a child of a name
abbrev pub size_with_node : List ℕ → Name → ℕ
size_with_node bytes name = number bytes 4 + padded (5 + length name) + 4

-- the child is added, where there are so many bytes
pub record MayAddWithin (room : ℕ) (bytes : List ℕ) (node : ℕ) (name : Name) : Type 0 where
  pub fresh : stands_in (reading_in bytes) (path_in bytes node ++ name ∷ []) ≡ false
  pub shallow : length (path_in bytes node) < most_names
  pub few : 1 + node_count (reading_in bytes).children < most_nodes
  pub fits : FitsIn room (size_with_node bytes name)

abbrev pub MayAddIn : List ℕ → ℕ → Name → Type 0
MayAddIn bytes node name = MayAddWithin (length bytes) bytes node name

-- there is no room for it: its path would have more than 64 names, there would be more than 65,536 nodes, or the blob would be too long
abbrev pub HasNoRoomFor : ℕ → List ℕ → ℕ → Name → Type 0
HasNoRoomFor room bytes node name =
    ¬ ((length (path_in bytes node) < most_names) × (1 + node_count (reading_in bytes).children < most_nodes)) ⊎ ¬ FitsIn room (size_with_node bytes name)

-- it isn't: it is there; or else there is no room for it
abbrev pub WhyNotAddedWithin : ℕ → FaultKind → List ℕ → ℕ → Name → Type 0
WhyNotAddedWithin room Duplicate bytes node name = stands_in (reading_in bytes) (path_in bytes node ++ name ∷ []) ≡ true
WhyNotAddedWithin room Limit bytes node name =
    (stands_in (reading_in bytes) (path_in bytes node ++ name ∷ []) ≡ false) × HasNoRoomFor room bytes node name
WhyNotAddedWithin room _ bytes node name = ⊥

abbrev pub WhyNotAddedIn : FaultKind → List ℕ → ℕ → Name → Type 0
WhyNotAddedIn kind bytes node name = WhyNotAddedWithin (length bytes) kind bytes node name

-- the same where bytes may become as many as a blob may have
abbrev pub WhyNotAddedOwned : FaultKind → List ℕ → ℕ → Name → Type 0
WhyNotAddedOwned NoMemory bytes node name = MayAddWithin most_bytes bytes node name
WhyNotAddedOwned kind bytes node name = WhyNotAddedWithin most_bytes kind bytes node name
