-- What the rows of a tree stand for: a row is the number of a node and the number of a name.
use Rattle.std.specs.Prelude.{◌≡◌, ℕ, suc, ◌<◌, ◌≤◌, ◌-◌, ◌==◌, ◌&&◌, nat_eq, Bool, true, false, if◌then◌else◌, List, [], ◌∷◌, ◌++◌, length, Option, Some, None, IsSome, option_map}
use Rattle.std.specs.List.{AllByRecursion, slice_index_or}
use Rattle.std.specs.Map.{lookup}
use Rattle.dt_model.specs.Names.{Name}
use Rattle.dt_model.specs.Tree.{Property}
use Rattle.dt_flat.specs.declared.nodes.Branch.{Branch}
use Rattle.dt_flat.specs.Arena.{Slot}
use Rattle.dt_flat.specs.Names.{text}

abbrev pub Row : Type 0
Row = ℕ × ℕ

abbrev pub nodes_of : List Row → List ℕ
nodes_of [] = []
nodes_of (r ∷ rs) = r.0 ∷ nodes_of rs

abbrev pub is_row : ℕ → ℕ → Row → Bool
is_row p k r = nat_eq p r.0 && nat_eq k r.1

-- the place of the row of the node p and the name k
abbrev pub place_of : ℕ → ℕ → List Row → Option ℕ
place_of p k [] = None
place_of p k (r ∷ rs) = if is_row p k r then Some 0 else option_map suc (place_of p k rs)

-- the place of the first of these rows that has the name k
abbrev pub place_among : ℕ → List Row → List ℕ → Option ℕ
place_among k rs [] = None
place_among k rs (rank ∷ ranks) = if nat_eq k (slice_index_or rs (rank - 1) (0, 0)).1 then Some (rank - 1) else place_among k rs ranks

-- what an index has for the node p and the name k
abbrev pub entry : List (Row × ℕ) → ℕ → ℕ → Option ℕ
entry entries p k = lookup (is_row p k) entries

-- the new entries are the old ones with a place at the row
abbrev pub PutsRow : List (Row × ℕ) → List (Row × ℕ) → Row → ℕ → Type 0
PutsRow old new row place = (p k : ℕ) → entry new p k ≡ (if is_row p k row then Some place else entry old p k)

-- the index has the place of each row, and no other
abbrev pub IsIndexOf : List Row → List (Row × ℕ) → Type 0
IsIndexOf rs entries = (p k : ℕ) → entry entries p k ≡ place_of p k rs

-- the place of the row of the node p and the name k, or none where it was none of the old ones and comes behind them
abbrev pub IsEntered : ℕ → ℕ → List Row → List Row → Option ℕ → Type 0
IsEntered p k old new None = (place_of p k old ≡ None) × (new ≡ old ++ (p, k) ∷ [])
IsEntered p k old new (Some place) = (place_of p k old ≡ Some place) × (new ≡ old)

-- ---- properties

-- a property: its node, the number of its name, and its value
pub record Held : Type 0 where
  pub node : ℕ
  pub name : ℕ
  pub value : List ℕ

-- rows with values
abbrev pub held : List Row → List (List ℕ) → List Held
held [] vs = []
held (r ∷ rs) [] = []
held (r ∷ rs) (v ∷ vs) = record { node = r.0; name = r.1; value = v } ∷ held rs vs

abbrev pub rows_of : List Held → List Row
rows_of [] = []
rows_of (h ∷ hs) = (h.node, h.name) ∷ rows_of hs

-- the value of the property of the node p named k
abbrev pub value_held : ℕ → ℕ → List Held → Option (List ℕ)
value_held p k [] = None
value_held p k (h ∷ hs) = if is_row p k (h.node, h.name) then Some h.value else value_held p k hs

-- the properties once that one has a value: where it was it keeps its place, and it goes last where it is new
abbrev pub put : List Held → ℕ → ℕ → List ℕ → List Held
put [] p k value = record { node = p; name = k; value = value } ∷ []
put (h ∷ hs) p k value = if is_row p k (h.node, h.name) then record h { value = value } ∷ hs else h ∷ put hs p k value

abbrev pub property_of : List Name → Held → Property
property_of names h = record { name = text names h.name; value = h.value }

-- the property of a rank
abbrev pub property_at : List Name → List Held → ℕ → Property
property_at names hs rank = property_of names (slice_index_or hs (rank - 1) (record { node = 0; name = 0; value = [] }))

-- those of the node p
abbrev pub owned : List Name → List Held → ℕ → List Property
owned names [] p = []
owned names (h ∷ hs) p = if h.node == p then property_of names h ∷ owned names hs p else owned names hs p

-- ---- nodes

-- rows with depths
abbrev pub branches : List Row → List ℕ → List Branch
branches [] ds = []
branches (r ∷ rs) [] = []
branches (r ∷ rs) (d ∷ ds) = record { parent = r.0; name = r.1; depth = d } ∷ branches rs ds

abbrev pub parents_of : List Branch → List ℕ
parents_of [] = []
parents_of (b ∷ bs) = b.parent ∷ parents_of bs

-- the number of the child of p named k, where the first of these nodes has number i
abbrev pub child_from : ℕ → ℕ → ℕ → List Branch → Option ℕ
child_from i p k [] = None
child_from i p k (b ∷ bs) = if is_row p k (b.parent, b.name) then Some i else child_from (suc i) p k bs

-- whether the node is added, which it is where its parent has no child of its name
abbrev pub IsAdded : Branch → List Branch → List Branch → Bool → Type 0
IsAdded b old new true = (child_from 1 b.parent b.name old ≡ None) × (new ≡ old ++ b ∷ [])
IsAdded b old new false = IsSome (child_from 1 b.parent b.name old) × (new ≡ old)

-- these nodes, where the first of them has number i, and `has` says which properties a node has
abbrev pub slots_from : List Name → (ℕ → List Property) → ℕ → List Branch → List Slot
slots_from names has i [] = []
slots_from names has i (b ∷ bs) = record { parent = b.parent; depth = b.depth; name = text names b.name; properties = has i } ∷ slots_from names has (suc i) bs

-- the same with the root
abbrev pub slots_kept : List Name → (ℕ → List Property) → List Branch → List Slot
slots_kept names has bs = record { parent = 0; depth = 0; name = []; properties = has 0 } ∷ slots_from names has 1 bs

-- ---- both

-- each node comes after its parent, where the first of these nodes has number i
abbrev pub AreBehind : ℕ → List Branch → Type 0
AreBehind i [] = Unit {0}
AreBehind i (b ∷ bs) = (b.parent < i) × AreBehind (suc i) bs

-- the nodes and the properties of one tree
pub record AreRows (names : List Name) (bs : List Branch) (hs : List Held) : Type 0 where
  pub behind : AreBehind 1 bs
  pub named : AllByRecursion (λ b. b.name < length names) bs
  pub properties : AllByRecursion (λ h. (h.node < suc (length bs)) × (h.name < length names)) hs

-- these are ranks of properties, and these have names
pub record AreWithin (names : List Name) (hs : List Held) (rs : List ℕ) : Type 0 where
  pub ranks : AllByRecursion (λ rank. (0 < rank) × (rank ≤ length hs)) rs
  pub named : AllByRecursion (λ h. h.name < length names) hs
