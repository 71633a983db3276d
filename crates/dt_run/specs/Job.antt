-- What a job writes of its inputs, and why it doesn't.
use Rattle.std.specs.Prelude.{◌≡◌, ◌<◌, ℕ, List, Bool, Option, None, length}
use Rattle.dt_names.specs.Sink.{Taken, IsUntouched, IsCutShort}
use Rattle.dt_names.specs.declared.fault.FaultKind.{FaultKind}
use Rattle.dt_names.specs.declared.fault.FaultKind.TheVariants.{NoMemory, WriteFault}
use Rattle.dt_run.specs.Task.{IsBegunBy, IsTaskOf, IsWrittenBy, TakesMemory, WhyRefusedBy}
use Rattle.dt_run.specs.declared.task.Task.{Task}
use Rattle.dt_run_words.specs.declared.command_line.Job.{Job}

-- what the job's task writes of the inputs
abbrev pub IsWritten : Job → Bool → List (List ℕ) → List ℕ → Type 0
IsWritten job hex inputs bytes = (t : Task) × IsTaskOf job t × IsWrittenBy t hex inputs bytes

-- Why a task's output wasn't written, and for which input: memory was refused at one, to a task that takes some, or while hexadecimal is
-- made, which is of input 0, and nothing was written; or the sink failed, and took a front of it, which is of input 0; or an input is
-- refused, and nothing was written. Only the last of these may have a place.
abbrev pub WhyNotDoneBy : Task → ℕ → FaultKind → Option ℕ → Bool → List (List ℕ) → (old new : Taken) → Type 0
WhyNotDoneBy t k NoMemory at hex inputs old new = TakesMemory t × (k < length inputs) × (at ≡ None) × IsUntouched old new
WhyNotDoneBy t k WriteFault at hex inputs old new =
    (k ≡ 0) × (at ≡ None) × (bytes : List ℕ) × IsBegunBy t hex inputs bytes × IsCutShort bytes old new
WhyNotDoneBy t k kind at hex inputs old new = WhyRefusedBy t k (record { kind = kind; at = at }) inputs × IsUntouched old new

-- the same of the job's task
abbrev pub WhyNotPerformed : ℕ → FaultKind → Option ℕ → Job → Bool → List (List ℕ) → (old new : Taken) → Type 0
WhyNotPerformed k kind at job hex inputs old new = (t : Task) × IsTaskOf job t × WhyNotDoneBy t k kind at hex inputs old new
