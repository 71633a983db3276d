-- Properties that aren't phandles.
use Rattle.std.proofs.Common.{◌≡◌, ◌≢◌, ℕ, List, refl, codes}
use Rattle.dt_names.specs.declared.fault.FaultKind.{FaultKind}
use Rattle.dt_names.specs.declared.fault.FaultKind.TheVariants.{NoMemory, BlobPhandle}
use Rattle.dt_flat.specs.Arena.{Slot}
use Rattle.dt_flat.specs.Refusals.{WhyNotSet}

-- a property that isn't a phandle is set unless memory is refused
pub plain_refused : (kind : FaultKind) (slots : List Slot) (p : ℕ) (name value : List ℕ) → name ≢ codes "phandle" → WhyNotSet kind slots p name value → kind ≡ NoMemory
plain_refused NoMemory slots p name value plain why = refl
plain_refused BlobPhandle slots p name value plain why = absurd (why (record { valid = λ e. absurd (plain e); own = λ e. absurd (plain e) }))
plain_refused _ slots p name value plain why = absurd why
