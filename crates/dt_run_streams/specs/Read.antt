-- Why `read_all` reads no input.
use Rattle.std.specs.Prelude.{◌≡◌, ◌+◌, ◌<◌, ◌≤◌, ℕ, List, Bool, true, Option, length}
use Rattle.std.specs.Io.KnownBytes.{Consumes}
use Rattle.dt_model.specs.Limits.{most_bytes}
use Rattle.dt_names.specs.declared.fault.FaultKind.{FaultKind}
use Rattle.dt_names.specs.declared.fault.FaultKind.TheVariants.{NoMemory, Limit, ReadFault}

-- the feed went from the one to the other, and has failed or not: more than 16 MiB were taken of it, but no more than a piece of 4,096 bytes more; or
-- it failed
abbrev pub WhyNotRead : FaultKind → Option (List ℕ) → Option (List ℕ) → Bool → Type 0
WhyNotRead NoMemory old new has_failed = Unit {0}
WhyNotRead Limit old new has_failed = (bytes : List ℕ) × Consumes old new bytes × (most_bytes < length bytes) × (length bytes ≤ most_bytes + 4096)
WhyNotRead ReadFault old new has_failed = has_failed ≡ true
WhyNotRead _ old new has_failed = ⊥
