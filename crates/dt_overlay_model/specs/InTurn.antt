-- Applying a list of objects one after another.
use Rattle.std.specs.Prelude.{◌≡◌, ℕ, List, [], ◌∷◌, ◌++◌, Some}
use Rattle.dt_model.specs.Names.{Name}
use Rattle.dt_model.specs.Path.{Path}
use Rattle.dt_model.specs.Meaning.{Meaning, Extends}
use Rattle.dt_model.specs.Tree.{Reading}
use Rattle.dt_model.specs.Valid.{IsWithinLimits}
use Rattle.dt_model.specs.Overlay.{Overlay}
use Rattle.dt_model.specs.Merged.{IsFold}
use Rattle.dt_model.specs.Object.{Cell, HasFixups}
use Rattle.dt_model_laws.specs.Applying.{AreObjects}
use Rattle.dt_model.specs.Represents.{IsOf}
use Rattle.dt_overlay_model.specs.Walk.{applied}

-- the object is applied to the tree, with the cells that it lists
pub record IsApplied (base object result : Reading) : Type 0 where
  pub fixups : List (Name × Cell)
  pub listed : HasFixups object fixups
  pub is : applied base object fixups ≡ Some result

-- the objects are applied one after another, each tree before one within the limits
abbrev pub AreApplied : Reading → List Reading → Reading → Type 0
AreApplied base [] result = result ≡ base
AreApplied base (x ∷ objects) result = IsWithinLimits base × ((next : Reading) × IsApplied base x next × AreApplied next objects result)

-- an object is applied to a tree in one way
abbrev pub AppliedIsOne : Type 0
AppliedIsOne = (base object t u : Reading) → IsApplied base object t → IsApplied base object u → t ≡ u

-- what comes of it is of the meaning of the base with the overlays merged one after the other, by numbers that extend the base's
abbrev pub InTurnIsFold : Type 0
InTurnIsFold = (base : Reading) (objects : List Reading) (m : Meaning) (overlays : List Overlay) (number : Path → ℕ) (t : Reading)
    → IsOf base m number → AreObjects objects overlays → AreApplied base objects t
    → (result : Meaning) × (number' : Path → ℕ) × IsFold m overlays result × IsOf t result number' × Extends m number number'

-- and where that meaning is defined, they can be, as long as none of the trees on the way exceeds the limits
abbrev pub FoldIsInTurn : Type 0
FoldIsInTurn = (base : Reading) (objects : List Reading) (m : Meaning) (overlays : List Overlay) (number : Path → ℕ) (result : Meaning)
    → IsOf base m number → AreObjects objects overlays → IsFold m overlays result
    → ((front back : List Reading) (x t : Reading) → objects ≡ front ++ x ∷ back → AreApplied base front t → IsWithinLimits t)
    → (t : Reading) × AreApplied base objects t
