-- The values of an object's properties into which numbers are written.
use Rattle.std.specs.Prelude.{◌≡◌, ℕ, ◌&&◌, false, List, [], ◌∷◌, length, map, nat_eq, Option, Some, None, unwrap_or, if◌then◌else◌, codes}
use Rattle.std.specs.Borrow.{Bor}
use Rattle.std.specs.Global.{Vec}
use Rattle.std.specs.List.{AllByRecursion}
use Rattle.std.specs.Str.{bytes_eq}
use Rattle.dt_model.specs.Applied.{Write, value_after_writes}
use Rattle.dt_model.specs.Names.{Name}
use Rattle.dt_model.specs.Object.{HasCell}
use Rattle.dt_model.specs.Path.{Path}
use Rattle.dt_model.specs.Tree.{Property, value_in}
use Rattle.dt_overlay_object.specs.Plans.{AreWritesOf, IsWriteOf}
use Rattle.dt_overlay_object.specs.declared.kept.Write.{Write as KeptWrite}
use Rattle.dt_trees.specs.Placed.{PlacedTree, reading_of, IsAt}

-- a node's property, and the value that is kept of it
pub record Kept : Type 0 where
  pub node : ℕ
  pub name : Name
  pub value : List ℕ

abbrev pub value_kept : List Kept → ℕ → Name → Option (List ℕ)
value_kept [] k x = None
value_kept (e ∷ es) k x = if nat_eq k e.node && bytes_eq x e.name then Some e.value else value_kept es k x

-- what is kept of one property is this now, and of all others what it was
abbrev pub Keeps : (old new : List Kept) → ℕ → Name → Option (List ℕ) → Type 0
Keeps old new k x w = (j : ℕ) (y : Name) → value_kept new j y ≡ (if nat_eq k j && bytes_eq x y then w else value_kept old j y)

-- a property of a node, with the value that is kept of it
abbrev pub with_kept : List Kept → ℕ → Property → Property
with_kept es k p = record { name = p.name; value = unwrap_or (value_kept es k p.name) p.value }

-- ---- what is written

-- the value of a property, with what is written into it
pub record IsKept (es : List Kept) (written : List Write) (p : Path) (k : ℕ) (x : Name) (v : List ℕ) : Type 0 where
  pub is : bytes_eq x (codes "phandle") ≡ false → unwrap_or (value_kept es k x) v ≡ value_after_writes p x written v
  pub long : length (unwrap_or (value_kept es k x) v) ≡ length v

-- the values of the tree's properties have these numbers in their cells, but for those of `phandle`
abbrev pub AreKept : PlacedTree → List Kept → List Write → Type 0
AreKept t es written =
    (p : Path) (k : ℕ) (x : Name) (v : List ℕ) → IsAt t p k → value_in (reading_of t) p x ≡ Some v → IsKept es written p k x v

-- behind these, one more may be written
pub record MayWrite (t : PlacedTree) (es : List Kept) (written : List Write) (x : KeptWrite) (w : Write) : Type 0 where
  pub kept : AreKept t es written
  pub is : IsWriteOf t x w
  pub cell : HasCell (reading_of t) w.cell

-- or more
pub record MayWriteAll (t : PlacedTree) (es : List Kept) (written : List Write) (xs : List KeptWrite) (ws : List Write) : Type 0 where
  pub kept : AreKept t es written
  pub are : AreWritesOf t xs ws
  pub cells : AllByRecursion (λ (w : Write). HasCell (reading_of t) w.cell) ws

-- ---- the table

-- a key is a node's number and the bytes of a name, which are borrowed
abbrev pub Key : Type 0
Key = ℕ × Bor (List ℕ)

abbrev pub values_kept : List (Key × Vec ℕ) → List Kept
values_kept entries = map (λ (e : Key × Vec ℕ). record { node = e.0.0; name = e.0.1.now; value = e.1.items }) entries
