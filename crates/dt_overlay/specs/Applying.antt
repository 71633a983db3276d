-- What a fault leaves of a base.
use Rattle.std.specs.Prelude.{◌≡◌, ◌⊎◌}
use Rattle.dt_model.specs.Tree.{Reading}
use Rattle.dt_names.specs.declared.fault.FaultKind.{FaultKind}
use Rattle.dt_names.specs.declared.fault.FaultKind.TheVariants.{NoMemory, Limit}
use Rattle.dt_overlay_laws.specs.Refusals.{IsCrowded}

-- a fault leaves the base as it was, unless memory is wanted, or room on the way
abbrev pub IsLeftBy : (Reading → Reading → Type 0) → FaultKind → (base object new : Reading) → Type 0
IsLeftBy full kind base object new = (kind ≡ NoMemory) ⊎ ((kind ≡ Limit) × IsCrowded full base object) ⊎ (new ≡ base)
