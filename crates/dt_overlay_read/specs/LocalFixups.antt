-- The cells that hold numbers of the object's own nodes, while they are listed.
use Rattle.std.specs.Prelude.{◌≡◌, ◌⊎◌, ℕ, List, [], ◌∷◌, ◌++◌, map, None, true, codes}
use Rattle.std.specs.List.{AllByRecursion, flat_map}
use Rattle.dt_model.specs.Names.{Name}
use Rattle.dt_model.specs.Path.{Path}
use Rattle.dt_model.specs.Valid.{names}
use Rattle.dt_model.specs.Tree.{Property, Reading, Forest, stands_in, preorder}
use Rattle.dt_model.specs.Numbers.{is_brought}
use Rattle.dt_model.specs.Object.{Cell, cells_of, fragment_names, words_of, HasCell}
use Rattle.dt_model.specs.Applied.{local_write}
use Rattle.dt_names.specs.declared.fault.Fault.{Fault}
use Rattle.dt_names.specs.declared.fault.FaultKind.TheVariants.{NoMemory, BadLocalFixup}
use Rattle.dt_overlay_laws.specs.Objects.{IsLocalCell, IsLocalFixup, IsMirror}
use Rattle.dt_overlay_object.specs.declared.brought.Brought.{Brought}
use Rattle.dt_overlay_object.specs.declared.kept.Write.{Write as KeptWrite}
use Rattle.dt_overlay_object.specs.Plans.{AreBroughtBy, AreWritesOf, IsLocalNumber}
use Rattle.dt_trees.specs.Placed.{PlacedTree, reading_of, path_at, properties_at, below_at, IsNode}

-- the path of a node's mirror
abbrev pub mirror_of : Path → Path
mirror_of p = codes "__local_fixups__" ∷ p

-- one node is the mirror of the other
pub record AreCounterparts (t : PlacedTree) (mirror node : ℕ) : Type 0 where
  pub mirror_there : IsNode t mirror
  pub node_there : IsNode t node
  pub mirrored : path_at t mirror ≡ mirror_of (path_at t node)

-- memory is refused, or else this is why
abbrev pub IsLocalFault : Type 0 → Fault → Type 0
IsLocalFault why fault = (fault.at ≡ None) × ((fault.kind ≡ NoMemory) ⊎ ((fault.kind ≡ BadLocalFixup) × why))

-- what holds of the numbers of the nodes that are brought
abbrev pub WhereBroughtBy : PlacedTree → Brought → (List (Path × ℕ) → Type 0) → Type 0
WhereBroughtBy t b P = (numbers : List (Path × ℕ)) → AreBroughtBy t numbers b → P numbers

-- what a fragment brings names nothing else
abbrev pub MayName : PlacedTree → ℕ → ℕ → Type 0
MayName t node named =
    is_brought (fragment_names (reading_of t).children) (path_at t node) ≡ true → is_brought (fragment_names (reading_of t).children) (path_at t named) ≡ true

-- a node's value has a cell of a node's number there
abbrev pub IsCellAt : PlacedTree → ℕ → List ℕ → ℕ → Type 0
IsCellAt t node value offset = IsLocalCell (reading_of t) (path_at t node) value offset

-- and this is what the cell gets
abbrev pub IsNumberAt : PlacedTree → List (Path × ℕ) → ℕ → List ℕ → ℕ → ℕ → Type 0
IsNumberAt t numbers node value offset number = IsLocalNumber (reading_of t) numbers (path_at t node) value offset number

abbrev pub properties_of : PlacedTree → ℕ → List Property
properties_of t k = properties_at t (path_at t k)

-- ---- what is listed

-- what lists those that are left lists all, as a loop goes on
abbrev pub Left : {X : Type 0} → (X → List KeptWrite → List KeptWrite → Type 0) → X → X → List KeptWrite → List KeptWrite → Type 0
Left lists all left old now = (new : List KeptWrite) → lists left now new → lists all old new

-- the writes of cells that the object has are listed behind what was
pub record ListsCells (t : PlacedTree) (numbers : List (Path × ℕ)) (cells : List Cell) (old new : List KeptWrite) : Type 0 where
  pub more : List KeptWrite
  pub appended : new ≡ old ++ more
  pub writes : AreWritesOf t more (map (local_write (reading_of t) numbers) cells)
  pub there : AllByRecursion (HasCell (reading_of t)) cells

-- the cell of a property of the path's node at an offset
abbrev pub offset_cell : Path → Name → ℕ → Cell
offset_cell p name offset = record { path = p; property = name; offset = offset }

-- those of some offsets of a value
pub record ListsOffsets (t : PlacedTree) (numbers : List (Path × ℕ)) (p : Path) (name : Name) (value : List ℕ) (offsets : List ℕ)
    (old new : List KeptWrite) : Type 0 where
  pub listed : ListsCells t numbers (map (offset_cell p name) offsets) old new
  pub well : AllByRecursion (IsLocalCell (reading_of t) p value) offsets

-- the cells that a property of the mirror lists
abbrev pub property_cells : Path → Property → List Cell
property_cells p x = map (offset_cell p x.name) (words_of x.value)

-- those that some properties of a node's mirror list
pub record ListsProperties (t : PlacedTree) (numbers : List (Path × ℕ)) (p : Path) (xs : List Property) (old new : List KeptWrite) : Type 0 where
  pub listed : ListsCells t numbers (flat_map (property_cells p) xs) old new
  pub well : AllByRecursion (IsLocalFixup (reading_of t) p) xs

-- the mirror of the path's node is as it has to be, and so is each below it
abbrev pub AreMirrors : Reading → Path → Type 0
AreMirrors object p = (q : Path) → stands_in object (mirror_of (p ++ q)) ≡ true → IsMirror object (p ++ q)

-- the cells that the path's mirror, and those below it, list
abbrev pub mirror_cells : PlacedTree → Path → List Cell
mirror_cells t p = flat_map cells_of (record { path = p; properties = properties_at t (mirror_of p) } ∷ preorder p (below_at t (mirror_of p)))

-- those that the path's mirror, and those below it, list
pub record ListsMirror (t : PlacedTree) (numbers : List (Path × ℕ)) (p : Path) (old new : List KeptWrite) : Type 0 where
  pub listed : ListsCells t numbers (mirror_cells t p) old new
  pub well : AreMirrors (reading_of t) p

-- those that some nodes below the path's mirror list
pub record ListsMirrors (t : PlacedTree) (numbers : List (Path × ℕ)) (p : Path) (left : Forest) (old new : List KeptWrite) : Type 0 where
  pub listed : ListsCells t numbers (flat_map cells_of (preorder p left)) old new
  pub well : AllByRecursion (λ x. AreMirrors (reading_of t) (p ++ x ∷ [])) (names left)

-- a node of the mirror isn't as it has to be
abbrev pub HasBadMirror : Reading → Type 0
HasBadMirror object = (p : Path) × (stands_in object (mirror_of p) ≡ true) × ¬ IsMirror object p
