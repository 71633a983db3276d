-- Trees that take an overlay: what may be changed in them, and why a change is refused.
use Rattle.std.specs.Prelude.{◌≡◌, ℕ, ◌<◌, ◌≤◌, ◌⊎◌, true, false, List, [], ◌∷◌, ◌++◌, length, None, Some, codes}
use Rattle.dt_model.specs.Changes.{with_child_at, with_property_at}
use Rattle.dt_model.specs.Limits.{most_names}
use Rattle.dt_model.specs.Names.{Name}
use Rattle.dt_model.specs.Path.{Path}
use Rattle.dt_model.specs.Tree.{Reading, stands_in, value_in}
use Rattle.dt_model.specs.Valid.{IsPhandle}
use Rattle.dt_names.specs.declared.fault.Fault.{Fault}
use Rattle.dt_names.specs.declared.fault.FaultKind.{FaultKind}
use Rattle.dt_names.specs.declared.fault.FaultKind.TheVariants.{NoMemory, Limit, Duplicate, BlobPhandle}

-- ---- room

-- a tree that comes of the first one by changes, and reads as t, has no room for next
abbrev pub HasNoRoom : {X : Type 0} → (X → Reading) → (X → Reading → Type 0) → (X → X → Type 0) → X → Reading → Reading → Type 0
HasNoRoom {X} reads has_room follows first t next = (x : X) × follows first x × (reads x ≡ t) × ¬ has_room x next

-- memory was refused, or else there is no room
abbrev pub IsWant : Type 0 → Fault → Type 0
IsWant full fault = (fault.at ≡ None) × ((fault.kind ≡ NoMemory) ⊎ ((fault.kind ≡ Limit) × full))

-- ---- a child

-- a child of that name may be added to the path's node, in a tree t that has this room
pub record MayAddAt (has_room : Reading → Type 0) (t : Reading) (p : Path) (name : Name) : Type 0 where
  pub fresh : stands_in t (p ++ name ∷ []) ≡ false
  pub room : has_room (with_child_at p name t)
  pub shallow : length p < most_names

-- no child of that name is added: it is there; or else there is no room for it, or the path is as long as one may be
abbrev pub WhyNotAddedAt : (Reading → Type 0) → FaultKind → Reading → Path → Name → Type 0
WhyNotAddedAt has_room NoMemory t p name = MayAddAt has_room t p name
WhyNotAddedAt has_room Duplicate t p name = stands_in t (p ++ name ∷ []) ≡ true
WhyNotAddedAt has_room Limit t p name =
    (stands_in t (p ++ name ∷ []) ≡ false) × ((¬ has_room (with_child_at p name t)) ⊎ (most_names ≤ length p))
WhyNotAddedAt has_room _ t p name = ⊥

-- ---- a property

-- the value may be set: as a phandle it is a number in range that no other node has (Devicetree Specification v0.4, 2.3.3)
pub record MaySetAt (t : Reading) (p : Path) (name : Name) (value : List ℕ) : Type 0 where
  pub valid : name ≡ codes "phandle" → IsPhandle value
  pub own : name ≡ codes "phandle" → (q : Path) → value_in t q (codes "phandle") ≡ Some value → q ≡ p

-- and there is room for it
pub record HasRoomAt (has_room : Reading → Type 0) (t : Reading) (p : Path) (name : Name) (value : List ℕ) : Type 0 where
  pub may : MaySetAt t p name value
  pub room : has_room (with_property_at p name value t)

-- the value isn't set: it may not be; or else there is no room for it
abbrev pub WhyNotSetAt : (Reading → Type 0) → FaultKind → Reading → Path → Name → List ℕ → Type 0
WhyNotSetAt has_room NoMemory t p name value = HasRoomAt has_room t p name value
WhyNotSetAt has_room BlobPhandle t p name value = ¬ MaySetAt t p name value
WhyNotSetAt has_room Limit t p name value = MaySetAt t p name value × ¬ has_room (with_property_at p name value t)
WhyNotSetAt has_room _ t p name value = ⊥
