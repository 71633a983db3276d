-- Tables of a tree's nodes.
use Rattle.std.specs.Prelude.{◌≡◌, ◌⊎◌, ◌<◌, ◌≤◌, ◌^◌, ◌==◌, ◌-◌, ◌&&◌, ◌||◌, ℕ, nat_eq, Bool, true, List, [], ◌∷◌, ◌++◌, length, map, slice_index, Option, Some, None, is_some, cond, codes, not}
use Rattle.std.specs.Borrow.{Bor}
use Rattle.std.specs.List.{between}
use Rattle.std.specs.Map.{lookup}
use Rattle.std.specs.Option.{option_copied, IfSome}
use Rattle.std.specs.Str.{bytes_eq}
use Rattle.dt_model.specs.Lists.{IsIn}
use Rattle.dt_model.specs.Names.{Name}
use Rattle.dt_model.specs.Tree.{Property, Placed, nodes_of, value_of, value_in}
use Rattle.dt_trees.specs.Placed.{PlacedTree, reading_of, path_at, place_of, properties_at, IsAt, IsNode}
use Rattle.dt_view.specs.declared.tables.Row.{Row}
use Rattle.dt_view.specs.declared.tables.Asked.{Asked}
use Rattle.dt_trees.specs.Views.{HasNumber, IsAbove}

-- what a table has for a number
abbrev pub at_number : {A : Type 0} → List (ℕ × A) → ℕ → Option A
at_number entries k = lookup (nat_eq k) entries

-- each of some nodes has a row with the node above it
abbrev pub AreParents : PlacedTree → List Placed → List (ℕ × Row) → Type 0
AreParents t nodes rows = (n : Placed) (k : ℕ) → IsIn n nodes → IsAt t n.path k → (row : Row) × (at_number rows k ≡ Some row) × IsAbove t k row.above

-- a number finds a node that has it, and each of some nodes is found by its number
pub record ArePhandles (t : PlacedTree) (nodes : List Placed) (entries : List (ℕ × ℕ)) : Type 0 where
  pub has : (n k : ℕ) → at_number entries n ≡ Some k → IsNode t k × HasNumber t k n
  pub found : (x : Placed) (k n : ℕ) → IsIn x nodes → IsAt t x.path k → n < 2 ^ 32 → HasNumber t k n → is_some (at_number entries n) ≡ true

-- a node's number is put into a table, where it has one
pub record IsNoted (t : PlacedTree) (node : ℕ) (old new : List (ℕ × ℕ)) : Type 0 where
  pub from : (n k : ℕ) → at_number new n ≡ Some k → (at_number old n ≡ Some k) ⊎ ((k ≡ node) × HasNumber t node n)
  pub kept : (n : ℕ) → is_some (at_number old n) ≡ true → is_some (at_number new n) ≡ true
  pub own : (n : ℕ) → n < 2 ^ 32 → HasNumber t node n → is_some (at_number new n) ≡ true

-- ---- values

-- a node, and the name of a property or a child, which is borrowed
abbrev pub Key : Type 0
Key = ℕ × Bor (List ℕ)

-- what was found first
abbrev pub first_found : Option (List ℕ) → Option (List ℕ) → Option (List ℕ)
first_found None later = later
first_found (Some v) later = Some v

-- one of the names that the rules of addresses and interrupts ask for whole
abbrev pub is_whole_name : Name → Bool
is_whole_name x =
    bytes_eq x (codes "reg") || bytes_eq x (codes "ranges") || bytes_eq x (codes "dma-ranges") || bytes_eq x (codes "device_type")
    || bytes_eq x (codes "#address-cells") || bytes_eq x (codes "#size-cells") || bytes_eq x (codes "#interrupt-cells")
    || bytes_eq x (codes "interrupts") || bytes_eq x (codes "interrupts-extended") || bytes_eq x (codes "interrupt-parent")
    || bytes_eq x (codes "interrupt-controller") || bytes_eq x (codes "interrupt-map") || bytes_eq x (codes "interrupt-map-mask")

-- it begins with #, or ends as KIND-map, KIND-map-mask and KIND-map-pass-thru do
abbrev pub ends_as_kind : Name → Bool
ends_as_kind x = (slice_index x 0 == 35) || (slice_index x (length x - 1) == 112) || (slice_index x (length x - 1) == 107) || (slice_index x (length x - 1) == 117)

-- another name that a rule of specifiers may ask for
abbrev pub is_kind_name : Name → Bool
is_kind_name x = not (is_whole_name x) && ends_as_kind x

abbrev pub asked_said : Asked → Property
asked_said a = record { name = a.name.now; value = a.value.now }

-- those of some properties that are asked for whole
abbrev pub asked_of : List Property → List Property
asked_of [] = []
asked_of (p ∷ ps) = cond (is_whole_name p.name) (p ∷ asked_of ps) (asked_of ps)

-- a row's values are those of its node that are asked for whole
pub record HasValues (t : PlacedTree) (values : List Asked) (k : ℕ) (row : Row) : Type 0 where
  pub ordered : row.first ≤ row.behind
  pub within : row.behind ≤ length values
  pub asked : map asked_said (between row.first row.behind values) ≡ asked_of (properties_at t (path_at t k))

-- each of some nodes has a row with its values
abbrev pub AreValues : PlacedTree → List Placed → List Asked → List (ℕ × Row) → Type 0
AreValues t nodes values rows = (n : Placed) (k : ℕ) → IsIn n nodes → IsAt t n.path k → (row : Row) × (at_number rows k ≡ Some row) × HasValues t values k row

-- some properties come behind the others, but for those that aren't asked for whole
abbrev pub AreNoted : List Asked → List Asked → List Property → Type 0
AreNoted old new properties = (more : List Asked) × (new ≡ old ++ more) × (map asked_said more ≡ asked_of properties)

-- ---- values of kinds

-- the value that a table has for a node and a name
abbrev pub value_at : List (Key × Bor (List ℕ)) → ℕ → Name → Option (List ℕ)
value_at entries k x = option_copied (lookup (λ (key : Key). nat_eq k key.0 && bytes_eq x key.1.now) entries)

-- the new entries are the old ones, with a value at a node and a name
abbrev pub PutsValue : List (Key × Bor (List ℕ)) → List (Key × Bor (List ℕ)) → ℕ → Name → List ℕ → Type 0
PutsValue old new node name value = (k : ℕ) (x : Name) → value_at new k x ≡ cond (nat_eq node k && bytes_eq name x) (Some value) (value_at old k x)

-- the same where it is a name of a kind; else nothing is put
abbrev pub NotesValue : List (Key × Bor (List ℕ)) → List (Key × Bor (List ℕ)) → ℕ → Name → List ℕ → Type 0
NotesValue old new node name value = cond (is_kind_name name) (PutsValue old new node name value) (new ≡ old)

-- each value is that of a node, and each of some nodes has its values of kinds there
pub record AreKinds (t : PlacedTree) (nodes : List Placed) (entries : List (Key × Bor (List ℕ))) : Type 0 where
  pub has : (k : ℕ) (x : Name) (v : List ℕ) → value_at entries k x ≡ Some v → value_in (reading_of t) (path_at t k) x ≡ Some v
  pub found : (n : Placed) (k : ℕ) (x : Name) → is_kind_name x ≡ true → IsIn n nodes → IsAt t n.path k
      → is_some (value_in (reading_of t) (path_at t k) x) ≡ true → is_some (value_at entries k x) ≡ true

-- of a node's properties some are put into a table, where they are of a kind
pub record AreKept (node : ℕ) (properties some : List Property) (old new : List (Key × Bor (List ℕ))) : Type 0 where
  pub from : (k : ℕ) (x : Name) (v : List ℕ) → value_at new k x ≡ Some v → (value_at old k x ≡ Some v) ⊎ ((k ≡ node) × (value_of properties x ≡ Some v))
  pub kept : (k : ℕ) (x : Name) → is_some (value_at old k x) ≡ true → is_some (value_at new k x) ≡ true
  pub own : (x : Name) → is_kind_name x ≡ true → is_some (value_of some x) ≡ true → is_some (value_at new node x) ≡ true

-- ---- children

-- the node that a table has for a node and a name
abbrev pub child_at : List (Key × ℕ) → ℕ → Name → Option ℕ
child_at entries k x = lookup (λ (key : Key). nat_eq k key.0 && bytes_eq x key.1.now) entries

-- the new entries are the old ones, with a node at the node above it and its name
abbrev pub PutsChild : List (Key × ℕ) → List (Key × ℕ) → Option ℕ → Name → ℕ → Type 0
PutsChild old new None name node = new ≡ old
PutsChild old new (Some above) name node = (k : ℕ) (x : Name) → child_at new k x ≡ cond (nat_eq above k && bytes_eq name x) (Some node) (child_at old k x)

-- each node is the child that its name finds, and each of some nodes is found by its name
pub record AreChildren (t : PlacedTree) (nodes : List Placed) (entries : List (Key × ℕ)) : Type 0 where
  pub has : (k : ℕ) (x : Name) (j : ℕ) → child_at entries k x ≡ Some j → place_of t (path_at t k ++ x ∷ []) ≡ Some j
  pub found : (n : Placed) (k : ℕ) (x : Name) → IsIn n nodes → IsNode t k → n.path ≡ path_at t k ++ x ∷ [] → is_some (child_at entries k x) ≡ true

-- ---- all

-- the tables have all nodes of the tree; there may be none of children
pub record AreIndexed (t : PlacedTree) (rows : List (ℕ × Row)) (phandles : List (ℕ × ℕ)) (values : List Asked) (kinds : List (Key × Bor (List ℕ))) (children : Option (List (Key × ℕ))) (count : ℕ) : Type 0 where
  pub above : AreParents t (nodes_of (reading_of t)) rows
  pub numbered : ArePhandles t (nodes_of (reading_of t)) phandles
  pub valued : AreValues t (nodes_of (reading_of t)) values rows
  pub kept : AreKinds t (nodes_of (reading_of t)) kinds
  pub below : IfSome children (AreChildren t (nodes_of (reading_of t)))
  pub counted : count ≡ length (nodes_of (reading_of t))
