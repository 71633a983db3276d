-- Why a tree isn't written.
use Rattle.std.specs.Prelude.{ℕ, ◌<◌, length}
use Rattle.dt_model.specs.Limits.{most_bytes}
use Rattle.dt_names.specs.declared.fault.FaultKind.{FaultKind}
use Rattle.dt_names.specs.declared.fault.FaultKind.TheVariants.{NoMemory, Limit}
use Rattle.dt_model.specs.Tree.{Reading}
use Rattle.dt_write.specs.Written.{written}

-- memory may be refused at any time, a limit only where the blob would be longer than 16 MiB
abbrev pub WhyNoBytes : FaultKind → ℕ → Type 0
WhyNoBytes NoMemory size = Unit {0}
WhyNoBytes Limit size = most_bytes < size
WhyNoBytes _ size = ⊥

-- why the blob of a tree isn't written
pub record WhyNotWritten (t : Reading) (kind : FaultKind) : Type 0 where
  pub why : WhyNoBytes kind (length (written t))
