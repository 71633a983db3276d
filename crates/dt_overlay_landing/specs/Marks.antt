-- How the targets of fragments are to be read.
use Rattle.std.specs.Prelude.{◌≡◌, ℕ, ◌==◌, ◌&&◌, Bool, true, false, List, [], ◌∷◌, Option, Some, None, if◌then◌else◌, codes}
use Rattle.std.specs.List.{list_any}
use Rattle.std.specs.Str.{bytes_eq}
use Rattle.dt_model.specs.Names.{Name}
use Rattle.dt_model.specs.Object.{Cell, local_cells}
use Rattle.dt_model.specs.Tree.{Reading}
use Rattle.dt_overlay_model.specs.Walk.{is_target, target_label}
use Rattle.dt_overlay_laws.specs.Objects.{SymbolHasNumber}
use Rattle.dt_overlay_landing.specs.declared.marks.TargetMark.{TargetMark}
use Rattle.dt_overlay_landing.specs.declared.marks.TargetMark.TheVariants.{Own, Label}
use Rattle.dt_overlay_base.specs.NodeNumbers.{at_node}
use Rattle.dt_overlay_object.specs.declared.kept.Write.{Write}
use Rattle.dt_trees.specs.Placed.{PlacedTree, reading_of, IsAt}

-- whether something is written into the node's `target`
abbrev pub is_target_write : ℕ → Write → Bool
is_target_write k w = (w.node == k) && bytes_eq w.property.now (codes "target")

-- the mark of a node, where these numbers of the object's own nodes are written
abbrev pub with_own : List Write → ℕ → Option TargetMark → Option TargetMark
with_own [] k mark = mark
with_own (w ∷ ws) k mark = with_own ws k (if is_target_write k w then Some Own else mark)

-- and where these labels' numbers are
abbrev pub with_labels : List Write → ℕ → Option TargetMark → Option TargetMark
with_labels [] k mark = mark
with_labels (w ∷ ws) k mark = with_labels ws k (if is_target_write k w then Some (Label w.number) else mark)

-- what the lists of an object say of a fragment's target
abbrev pub IsMark : Reading → Reading → List (Name × Cell) → Name → Option TargetMark → Type 0
IsMark base object fixups f (Some (Label n)) = (l : Name) × (target_label f fixups ≡ Some l) × SymbolHasNumber base l n
IsMark base object fixups f (Some Own) = (target_label f fixups ≡ None) × (list_any (is_target f) (local_cells object) ≡ true)
IsMark base object fixups f None = (target_label f fixups ≡ None) × (list_any (is_target f) (local_cells object) ≡ false)

-- each fragment's target is marked, by its node
abbrev pub AreMarked : Reading → List (Name × Cell) → PlacedTree → List (ℕ × TargetMark) → Type 0
AreMarked base fixups t marks = (f : Name) (k : ℕ) → IsAt t (f ∷ []) k → IsMark base (reading_of t) fixups f (at_node marks k)
