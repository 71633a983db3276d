-- Why an object isn't applied, and what that says of the overlay.
use Rattle.std.specs.Prelude.{◌≡◌, ◌≢◌, ℕ, List, Some}
use Rattle.dt_model.specs.Path.{Path}
use Rattle.dt_model.specs.Tree.{Reading}
use Rattle.dt_model.specs.Valid.{IsValid, IsWithinLimits}
use Rattle.dt_model.specs.Meaning.{Meaning}
use Rattle.dt_model.specs.Overlay.{Overlay}
use Rattle.dt_model.specs.Names.{Name}
use Rattle.dt_model.specs.Merged.{Site, IsDefined}
use Rattle.dt_model.specs.Object.{Cell, HasFixups, fragment_names}
use Rattle.dt_model.specs.Applied.{writes, applied_at}
use Rattle.dt_names.specs.declared.fault.FaultKind.{FaultKind}
use Rattle.dt_names.specs.declared.fault.FaultKind.TheVariants.{NoMemory, Limit}
use Rattle.dt_model_laws.specs.Applying.{AreOf}
use Rattle.dt_overlay_model.specs.InTurn.{IsApplied}
use Rattle.dt_overlay_model.specs.Walk.{Walked, nothing_walked, walk, new_numbers, applied}
use Rattle.dt_overlay_laws.specs.Landings.{AreSited}
use Rattle.dt_overlay_laws.specs.Laws.{AreShallow}
use Rattle.dt_overlay_laws.specs.Objects.{HasCells, IsWellFormed}
use Rattle.dt_overlay_laws.specs.Refusals.{IsCrowded, has_many, IsOverfull, WhyNotApplied}
use Rattle.dt_overlay_laws.specs.Steps.{MayLandFragments}

-- memory and limits aside, an object of an overlay is refused only where the overlay can't be merged into the base's meaning
abbrev pub RefusedIsUndefined : Type 0
RefusedIsUndefined = (base object : Reading) (m : Meaning) (o : Overlay) (number local : Path → ℕ) (kind : FaultKind) (sites : List Site)
    → AreOf base object m o number local → WhyNotApplied has_many kind base object → kind ≢ NoMemory → kind ≢ Limit → IsDefined m o sites → ⊥

-- memory and limits aside, no object is applied and refused, where blobs may hold the trees
abbrev pub AppliedIsNotRefused : Type 0
AppliedIsNotRefused = (base object t : Reading) (kind : FaultKind)
    → IsValid object → IsApplied base object t → IsWellFormed base object → WhyNotApplied has_many kind base object → kind ≢ NoMemory → kind ≢ Limit → ⊥

-- the object has no fault: it is applied, and nothing but memory and the number of nodes is in the way of landing it
pub record MayBeApplied (base object : Reading) (fixups : List (Name × Cell)) (w : Walked) : Type 0 where
  pub applied : applied base object fixups ≡ Some (applied_at base object fixups (new_numbers base object w) w.sites)
  pub walked : walk base object fixups nothing_walked (fragment_names object.children) ≡ Some w
  pub may : MayLandFragments base object (writes base object fixups (new_numbers base object w)) (new_numbers base object w) w.sites
  pub shallow : AreShallow object w.sites

-- so it is where its fragments have sites
abbrev pub SitedIsApplied : Type 0
SitedIsApplied = (base object : Reading) (fixups : List (Name × Cell)) (w : Walked)
    → IsValid base → IsValid object → IsWithinLimits base → IsWithinLimits object → HasCells base
    → HasFixups object fixups → IsWellFormed base object
    → AreSited base object fixups nothing_walked (fragment_names object.children) w
    → MayBeApplied base object fixups w

-- a limit is reported only where what would come of it exceeds it, if the number of nodes decides what there is room for
abbrev pub LimitIsExceeded : Type 0
LimitIsExceeded = (base object t : Reading) → IsValid base → IsValid object → IsApplied base object t
    → WhyNotApplied has_many Limit base object → IsWithinLimits t → ⊥

-- ---- where the number of nodes decides what there is room for

-- there is no room on the way exactly where what would come of the object has more than 65,536 nodes
pub record RoomIsCounted : Type 0 where
  pub over : (base object : Reading) → IsCrowded has_many base object → IsOverfull base object
  pub crowded : (base object : Reading) → IsWithinLimits base → IsOverfull base object → IsCrowded has_many base object

-- ---- one outcome

-- memory aside an object is refused for one reason, if the number of nodes decides what there is room for
abbrev pub OneRefusal : Type 0
OneRefusal = (base object : Reading) (kind other : FaultKind) → IsValid object → WhyNotApplied has_many kind base object
    → WhyNotApplied has_many other base object
    → kind ≢ NoMemory → other ≢ NoMemory → kind ≡ other
