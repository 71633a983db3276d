-- Applying an object of an overlay to a tree of a meaning gives a tree of the merged meaning, exactly where that is defined: nodes
-- that land on one path are one node with one number, which each reference to any of them holds.
use Rattle.std.specs.Prelude.{◌≡◌, ℕ, List, MatchOption}
use Rattle.dt_model.specs.Names.{Name}
use Rattle.dt_model.specs.Path.{Path}
use Rattle.dt_model.specs.Meaning.{Meaning, Extends}
use Rattle.dt_model.specs.Tree.{Reading}
use Rattle.dt_model.specs.Valid.{IsValid}
use Rattle.dt_model.specs.Represents.{Represents}
use Rattle.dt_model.specs.Overlay.{Overlay}
use Rattle.dt_model.specs.Merged.{Site, merged, IsDefined}
use Rattle.dt_model.specs.Object.{Cell, HasFixups}
use Rattle.dt_model.specs.Numbers.{IsLeastFree}
use Rattle.dt_model_laws.specs.Applying.{AreOf, KeepsBookkeeping}
use Rattle.dt_overlay_model.specs.Walk.{least_free, applied}

-- a number that is the least from 1 and not taken is there
abbrev pub LeastIsFree : Type 0
LeastIsFree = (taken : List ℕ) → IsLeastFree taken (least_free taken)

-- The tree is the base with an overlay merged into it at these sites, by numbers that extend the base's. A blob may hold it.
pub record IsResult (base : Reading) (m : Meaning) (o : Overlay) (number : Path → ℕ) (t : Reading) (sites : List Site) : Type 0 where
  pub defined : IsDefined m o sites
  pub number' : Path → ℕ
  pub represents : Represents t (merged m o sites) number'
  pub extends : Extends m number number'
  pub valid : IsValid t
  pub boot_cpu : t.boot_cpu ≡ base.boot_cpu
  pub bookkeeping : KeepsBookkeeping base t

-- there is a result exactly where the overlay can be merged into the meaning
abbrev pub ApplyingIsMerging : Type 0
ApplyingIsMerging = (base object : Reading) (m : Meaning) (o : Overlay) (number local : Path → ℕ) (fixups : List (Name × Cell))
    → AreOf base object m o number local → HasFixups object fixups
    → MatchOption (applied base object fixups) ((sites : List Site) → IsDefined m o sites → ⊥) (λ t. (sites : List Site) × IsResult base m o number t sites)

-- and an overlay that can be has one list of sites
abbrev pub SitesAreOne : Type 0
SitesAreOne = (m : Meaning) (o : Overlay) (sites others : List Site) → IsDefined m o sites → IsDefined m o others → sites ≡ others
