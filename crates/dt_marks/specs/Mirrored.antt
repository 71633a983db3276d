-- The nodes that hold cells with numbers of a tree's own nodes, and those above them, made again one after another.
use Rattle.std.specs.Prelude.{◌≡◌, ◌≢◌, ℕ, suc, ◌<◌, Bool, true, false, ◌||◌, ◌&&◌, List, [], ◌∷◌, ◌++◌, length, None, nat_eq, slice_index, slice_index_or, if◌then◌else◌, codes}
use Rattle.std.specs.List.{AllByRecursion}
use Rattle.dt_model.specs.Fixups.{local_properties, mirror, unless_empty}
use Rattle.dt_model.specs.Names.{IsNodeName, IsPropertyName}
use Rattle.dt_model.specs.Named.{NodeReference, Content, Named, Listed}
use Rattle.dt_model.specs.Tree.{Property, no_nodes}
use Rattle.dt_flat.specs.Arena.{Slot, named_children, child_of, with_child}
use Rattle.dt_flat.specs.Planted.{with_properties, planted}

-- whether there are some
abbrev pub has_some : {X : Type 0} → List X → Bool
has_some [] = false
has_some (x ∷ xs) = true

-- ---- which nodes are made again

-- the node of number j holds such cells, or one below it does that is one of these nodes; the first has number i
abbrev pub needed_by : ℕ → List (Listed NodeReference) → ℕ → Bool
needed_by i [] j = false
needed_by i (n ∷ ns) j =
    needed_by (suc i) ns j || ((nat_eq n.parent j || nat_eq i j) && (has_some (local_properties n.content) || needed_by (suc i) ns i))

-- ---- the nodes

-- the nodes after one is made again below node p
abbrev pub copied : List Slot → ℕ → Listed NodeReference → List Slot
copied slots p n = with_properties (with_child slots p n.name) (length slots) (local_properties n.content)

-- the nodes after one is made again below the copy of its parent, if it is needed
abbrev pub visited : Bool → List Slot → (copies : List ℕ) → Listed NodeReference → List Slot
visited is_needed slots copies n = if is_needed then copied slots (slice_index copies n.parent) n else slots

-- The nodes after those of these that are needed are made again, where the first of them has number i. The copies are the
-- numbers that the nodes before got.
abbrev pub mirrored : (ℕ → Bool) → ℕ → List Slot → (copies : List ℕ) → List (Listed NodeReference) → List Slot
mirrored needed i slots copies [] = slots
mirrored needed i slots copies (n ∷ ns) =
    if needed i
    then mirrored needed (suc i) (copied slots (slice_index copies n.parent) n) (copies ++ length slots ∷ []) ns
    else mirrored needed (suc i) slots (copies ++ 0 ∷ []) ns

-- a property that isn't a phandle
pub record IsNoPhandle (p : Property) : Type 0 where
  pub named : IsPropertyName p.name
  pub plain : p.name ≢ codes "phandle"

-- the node may be made again, but for limits
pub record MayCopy (slots : List Slot) (copies : List ℕ) (n : Listed NodeReference) : Type 0 where
  pub known : n.parent < length copies
  pub there : slice_index copies n.parent < length slots
  pub absent : child_of (named_children slots (slice_index copies n.parent)) n.name ≡ None
  pub named : IsNodeName n.name
  pub plain : AllByRecursion IsNoPhandle (local_properties n.content)

-- each of these nodes may that is needed, in its turn
abbrev pub MayMirror : (ℕ → Bool) → ℕ → List Slot → List ℕ → List (Listed NodeReference) → Type 0
MayMirror needed i slots copies [] = Unit {0}
MayMirror needed i slots copies (n ∷ ns) =
    (needed i ≡ true → MayCopy slots copies n × MayMirror needed (suc i) (copied slots (slice_index copies n.parent) n) (copies ++ length slots ∷ []) ns)
    × (needed i ≡ false → MayMirror needed (suc i) slots (copies ++ 0 ∷ []) ns)

-- whether node j is marked
abbrev pub marked_at : List Bool → ℕ → Bool
marked_at marks j = slice_index_or marks j false

-- ---- the whole

-- the nodes after the node `__local_fixups__` is made with the cells of the root
abbrev pub with_mirror_root : List Slot → Content NodeReference → List Slot
with_mirror_root slots root = with_properties (with_child slots 0 (codes "__local_fixups__")) (length slots) (local_properties root)

-- the nodes of a tree after that node is made with all below it, where it isn't empty
abbrev pub with_inside : List Slot → Named NodeReference → List Slot
with_inside slots t = planted slots 0 (unless_empty (codes "__local_fixups__") (local_properties t.content) (mirror t.children) no_nodes)
