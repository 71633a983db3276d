-- Nodes of a tree in memory by their paths.
use Rattle.std.specs.Prelude.{◌≡◌, ℕ, ◌+◌, ◌<◌, ◌≤◌, length, Some}
use Rattle.dt_model.specs.Limits.{most_nodes}
use Rattle.dt_model.specs.Path.{Path}
use Rattle.dt_model.specs.Tree.{Reading}
use Rattle.dt_model.specs.Valid.{node_count}
use Rattle.dt_names.specs.declared.fault.FaultKind.{FaultKind}
use Rattle.dt_overlay_laws.specs.Refusals.{has_many, WhyNotApplied}
use Rattle.dt_flat.specs.Arena.{Arena, IsRooted, node_from, reading}
use Rattle.dt_flat.specs.Sound.{AreCells}
use Rattle.dt_overlay_base.specs.Targets.{HasNoRoom}

-- a path leads to the node of this number, in a tree in memory whose rest is known
pub record IsPlaced (a : Arena) (p : Path) (i : ℕ) : Type 0 where
  pub leads : node_from a.slots 0 p ≡ Some i
  pub there : i < length a.slots
  pub rooted : IsRooted a.slots
  pub paths : (j : ℕ) → j < length a.slots → (q : Path) × (node_from a.slots 0 q ≡ Some j)
  pub cells : AreCells a.slots

-- what there is room for in a tree in memory: so many nodes
abbrev pub HasRoom : Arena → Reading → Type 0
HasRoom tree next = 1 + node_count next.children ≤ most_nodes

-- what its changes keep: nothing
abbrev pub Follows : Arena → Arena → Type 0
Follows tree next = Unit {0}

-- an object isn't applied to one for want of room only where too many nodes would come of it
abbrev pub TreeRoomIsCounted : Type 0
TreeRoomIsCounted = (kind : FaultKind) (first : Arena) (base object : Reading) → WhyNotApplied (HasNoRoom reading HasRoom Follows first) kind base object
    → WhyNotApplied has_many kind base object
