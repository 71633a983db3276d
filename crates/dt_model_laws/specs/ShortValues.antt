-- Trees whose values aren't too long for a blob, and what is true of them where an overlay's source is compiled to one.
use Rattle.std.specs.Prelude.{◌≡◌, ℕ, ◌+◌, ◌<◌, ◌≤◌, ◌^◌, List, length, Some}
use Rattle.std.specs.List.{AllByRecursion}
use Rattle.dt_model.specs.Limits.{most_nodes}
use Rattle.dt_model.specs.Names.{Name}
use Rattle.dt_model.specs.Path.{Path}
use Rattle.dt_model.specs.Source.{Place, IsPlace}
use Rattle.dt_model.specs.Overlay.{Overlay}
use Rattle.dt_model.specs.OverlaySource.{OverlayMeans}
use Rattle.dt_model.specs.Object.{Encodes}
use Rattle.dt_model.specs.Format.{Reads}
use Rattle.dt_model.specs.Tree.{Reading, value_in}
use Rattle.dt_model.specs.Valid.{node_count}
use Rattle.dt_model.specs.Fixups.{IsObjectOf}

-- the length of each value is a 32-bit number
abbrev pub HasShortValues : Reading → Type 0
HasShortValues t = (p : Path) (name : Name) (v : List ℕ) → value_in t p name ≡ Some v → length v < 2 ^ 32

-- so it is in each tree that a blob is read as
abbrev pub ReadValuesAreShort : Type 0
ReadValuesAreShort = (bytes : List ℕ) (t : Reading) → Reads bytes t → HasShortValues t

-- the tree that an overlay's source is compiled to is then an object of what the source means
abbrev pub ShortObjectEncodes : Type 0
ShortObjectEncodes = (places : List Place) (t : Reading)
    → AllByRecursion IsPlace places → IsObjectOf places t → 1 + node_count t.children ≤ most_nodes → HasShortValues t
    → (o : Overlay) × (number : Path → ℕ) × OverlayMeans places o × Encodes t o number
