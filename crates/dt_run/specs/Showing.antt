-- Why a blob isn't made or written.
use Rattle.std.specs.Prelude.{◌≡◌, ◌<◌, ◌≤◌, ℕ, List, Option, None, length}
use Rattle.dt_names.specs.Sink.{Taken, IsUntouched, IsCutShort}
use Rattle.dt_names.specs.declared.fault.Fault.{Fault}
use Rattle.dt_names.specs.declared.fault.FaultKind.{FaultKind}
use Rattle.dt_names.specs.declared.fault.FaultKind.TheVariants.{NoMemory, WriteFault}
use Rattle.dt_run.specs.Task.{WhyNotMade}
use Rattle.dt_run.specs.declared.task.Making.{Making}
use Rattle.dt_run.specs.declared.task.Making.TheVariants.{Compile, CompileRaw, Apply, Build}

-- Why what is to be written wasn't: memory was refused, and nothing was written; or the sink failed, and took a front of it.
-- Neither has a place.
abbrev pub WhyNotShown : FaultKind → Option ℕ → List ℕ → (old new : Taken) → Type 0
WhyNotShown NoMemory at whole old new = (at ≡ None) × IsUntouched old new
WhyNotShown WriteFault at whole old new = (at ≡ None) × IsCutShort whole old new
WhyNotShown _ at whole old new = ⊥

-- the inputs are as many as the making takes
abbrev pub HasInputs : Making → ℕ → Type 0
HasInputs Compile count = count ≡ 1
HasInputs CompileRaw count = count ≡ 1
HasInputs Apply count = 1 ≤ count
HasInputs Build count = 1 ≤ count

-- a fault that no sink has
abbrev pub IsUnwritten : FaultKind → Type 0
IsUnwritten WriteFault = ⊥
IsUnwritten _ = Unit {0}

-- a fault of an input: it is of no sink, and want of memory has no place
abbrev pub IsOfInput : Fault → Type 0
IsOfInput e = IsUnwritten e.kind × (e.kind ≡ NoMemory → e.at ≡ None)

-- why an input is refused, one of those that there are
abbrev pub WhyInput : Making → List (List ℕ) → ℕ → Fault → Type 0
WhyInput making inputs k e = (k < length inputs) × IsOfInput e × WhyNotMade making k e inputs
